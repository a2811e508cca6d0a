use Rattle.eg_pages.specs.Pages.{pages_of}
use Rattle.eg_pages.proofs.PageLemmas.{Copied}
use Rattle.eg_pages.proofs.page.joined.Given as goal

-- the words of the first pages were copied
abbrev pub invariant-loop-number : goal.invariant-loop-number
invariant-loop-number l = Copied l.words (pages_of l.pages) l.number
