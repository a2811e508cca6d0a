-- What a memory in pages consists of.
use Rattle.std.specs.Prelude.{◌≡◌, ℕ, List, length, map}
use Rattle.std.specs.List.{All, concat}
use Rattle.std.specs.Rc.{rc_value}
use Rattle.std.specs.declared.rc.Rc.{Rc}
use Rattle.eg_guard.specs.Memory.{AreWords}
use Rattle.eg_pages.specs.declared.page.TheConstants.{PAGES, PAGE_WORDS}

-- the words fill a page
abbrev pub IsPage : List ℕ → Type 0
IsPage words = length words ≡ PAGE_WORDS

-- C23: 64 pages, which together are the words of a memory
pub record ArePages (pages : List (List ℕ)) : Type 0 where
  pub count : length pages ≡ PAGES
  pub each : All IsPage pages
  pub words : AreWords (concat pages)

-- the words of each page, whether or not other memories share it
abbrev pub pages_of : {A : Type 0} → List (Rc (List ℕ) A) → List (List ℕ)
pages_of shared = map rc_value shared

-- the words of a memory: those of its pages, one page after another
abbrev pub page_words : {A : Type 0} → List (Rc (List ℕ) A) → List ℕ
page_words shared = concat (pages_of shared)
