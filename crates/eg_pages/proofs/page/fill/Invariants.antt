use Rattle.eg_pages.specs.Pages.{pages_of}
use Rattle.eg_pages.proofs.PageLemmas.{Filled}
use Rattle.eg_pages.proofs.page.fill.Given as goal

-- the first pages have the first words
abbrev pub invariant-loop-number : goal.invariant-loop-number
invariant-loop-number l = Filled l.words (pages_of l.pages) l.number
