-- The text of a table, line by line.
use Rattle.std.proofs.Common.{◌≡◌, ◌∙◌, sym, ap, ℕ, List, [], ◌∷◌, ◌++◌, map, append_assoc}
use Rattle.std.specs.Prelude.{codes, decimal, Result, Ok, Err, is_ok, OnOk, if◌then◌else◌}
use Rattle.std.specs.List.{concat, zip}
use Rattle.std.proofs.lemmas.List.{append-nil}
use Rattle.std.proofs.lemmas.List.Folds.{concat-append}
use Rattle.eg_fault.specs.Names.{classes}
use Rattle.eg_record.specs.declared.watch.Watch.{Watch}
use Rattle.eg_record.specs.Texts.{watch_name}
use Rattle.eg_table.specs.declared.sweep_row.SweepRow.{SweepRow}
use Rattle.eg_table.specs.SweepTexts.{reaction_text, watch_text, watches_text, sweep_line, class_line, sweep_end, sweep_lines, sweep_text_of}

-- ---- lines that are written one after another ----

-- A text that is the whole with the lines of the things that are left behind it: so it is with the first of these lines written.
pub written : {X : Type 0} (line : X → List ℕ) (before now : List ℕ) (left rest : List X) (x : X) (all : List ℕ) →
    left ≡ x ∷ rest → now ≡ before ++ line x → before ++ concat (map line left) ≡ all → now ++ concat (map line rest) ≡ all
written line before now left rest x all is more whole =
    ap (λ text. text ++ concat (map line rest)) more ∙ append_assoc before (line x) (concat (map line rest))
    ∙ ap (λ xs. before ++ concat (map line xs)) (sym is) ∙ whole

pub all_written : {X : Type 0} (line : X → List ℕ) (text : List ℕ) (left : List X) (all : List ℕ) →
    left ≡ [] → text ++ concat (map line left) ≡ all → text ≡ all
all_written line text left all none whole =
    sym (append-nil text) ∙ ap (λ xs. text ++ concat (map line xs)) (sym none) ∙ whole

-- ---- the last piece ----

-- a last piece, which is appended or isn't
pub on_ok : {T E : Type 0} (result : Result T E) (now whole before all : List ℕ) →
    now ≡ (if is_ok result then whole else before) → (now ≡ whole → now ≡ all) → OnOk result (now ≡ all)
on_ok (Ok x) now whole before all is gives = gives is
on_ok (Err e) now whole before all is gives = tt

-- ---- a line ----

-- the count of a watch, as it is written at once
pub watch_text-is : (watch : Watch) (count : ℕ) (name : List ℕ) → name ≡ watch_name watch →
    codes "; " ++ (name ++ (codes " " ++ decimal count)) ≡ watch_text (watch, count)
unfolding watch_text
watch_text-is watch count name is = ap (λ name. codes "; " ++ (name ++ (codes " " ++ decimal count))) is
    ∙ sym (append_assoc (codes "; " ++ watch_name watch) (codes " ") (decimal count)
    ∙ append_assoc (codes "; ") (watch_name watch) (codes " " ++ decimal count))

-- what the line of a class begins with, and the whole line
abbrev pub begin_of : (name : List ℕ) → SweepRow → List ℕ
begin_of name row = name ++ (codes ": runs " ++ (decimal row.runs ++ (codes "; none " ++ decimal row.none)))

sweep_line-parts : (name : List ℕ) (row : SweepRow) (before : List ℕ) →
    ((((before ++ begin_of name row) ++ watches_text row.by_watch) ++ codes "; reaction ") ++ reaction_text row.reaction) ++ codes "\n"
    ≡ before ++ sweep_line (name, row)
unfolding sweep_line
sweep_line-parts name row before = parts before name (codes ": runs ") (decimal row.runs) (codes "; none ") (decimal row.none)
    (watches_text row.by_watch) (codes "; reaction ") (reaction_text row.reaction) (codes "\n")
  where
    parts : (t n a r b o w c m e : List ℕ) →
        ((((t ++ (n ++ (a ++ (r ++ (b ++ o))))) ++ w) ++ c) ++ m) ++ e ≡ t ++ (((((((n ++ a) ++ r) ++ b) ++ o) ++ w) ++ c) ++ m ++ e)
    parts t n a r b o w c m e = simp append_assoc

-- the line of a class, where its parts are written one after another
pub sweep_line-is : (name : List ℕ) (row : SweepRow) (before begun counted told reacted now : List ℕ) →
    begun ≡ before ++ begin_of name row → counted ≡ begun ++ watches_text row.by_watch → told ≡ counted ++ codes "; reaction " →
    reacted ≡ told ++ reaction_text row.reaction → now ≡ reacted ++ codes "\n" → now ≡ before ++ sweep_line (name, row)
sweep_line-is name row before begun counted told reacted now begins counts tells reacts ends =
    ends ∙ ap (λ text. text ++ codes "\n") (reacts ∙ ap (λ text. text ++ reaction_text row.reaction)
    (tells ∙ ap (λ text. text ++ codes "; reaction ") (counts ∙ ap (λ text. text ++ watches_text row.by_watch) begins)))
    ∙ sweep_line-parts name row before

-- ---- the whole text ----

pub sweep_text-is : (rows : List SweepRow) (lines text : List ℕ) →
    lines ≡ concat (map class_line (zip classes rows)) → text ≡ lines ++ sweep_end rows → text ≡ sweep_text_of rows
unfolding sweep_text_of sweep_lines
sweep_text-is rows lines text are is = is ∙ ap (λ lines. lines ++ sweep_end rows) are
    ∙ ap (λ last. concat (map class_line (zip classes rows)) ++ last) (sym (append-nil (sweep_end rows)))
    ∙ sym (concat-append (map class_line (zip classes rows)) (sweep_end rows ∷ []))
