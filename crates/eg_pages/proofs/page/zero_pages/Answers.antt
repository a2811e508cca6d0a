use Rattle.std.proofs.Common.{◌≡◌, ◌∙◌, ap, map, replicate, arith}
use Rattle.std.specs.List.{concat}
use Rattle.std.specs.Rc.{rc_value}
use Rattle.eg_pages.proofs.PageLemmas.{map-clones, zero_words, zero_pages}
use Rattle.eg_pages.proofs.page.zero_pages.Goals as goal

-- each page is a page of 0s
all_zero : (c : goal.In-Ok) → map rc_value c.in-Ok.pages ≡ replicate 64 (replicate 64 0)
all_zero c = ap (map rc_value) c.in-Ok.ensures.0
    ∙ map-clones rc_value c.in_ok-page.page c.in_ok-pages.pages.items 64 c.in_ok-pages.ensures.items (omega (arith, c.in_ok-pages.pages.ok.0, c.in-Ok.ensures.1))
    ∙ ap (replicate 64) c.in_ok-page.ensures.ok

pub returns-clause-words : goal.returns-clause-words
returns-clause-words c = ap concat (all_zero c) ∙ zero_words

pub returns-clause-are_pages : goal.returns-clause-are_pages
returns-clause-are_pages c = rw (all_zero c) zero_pages
