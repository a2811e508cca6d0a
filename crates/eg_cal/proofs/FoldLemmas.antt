-- The fold of a question of a calibration file is a word of 16 bits.
use Rattle.std.proofs.Common.{◌≡◌, ℕ, ◌≤◌, List, [], All, codes, Option, Some, None, refl, ap, subst, arith}
use Rattle.std.specs.Prelude.{unwrap_or}
use Rattle.std.proofs.lemmas.List.Elements.{All-nil}
use Rattle.toml.specs.Data.{Members, get_member}
use Rattle.eg_toml.specs.Values.{number_in}
use Rattle.eg_toml.specs.Arrays.{rows_in}
use Rattle.eg_toml.proofs.RangeLemmas.{bind-some, number_in-within, rows_in-within}
use Rattle.eg_answer.specs.Answers.{results_of, expected_of}
use Rattle.eg_answer.specs.declared.rules.TestRow.{TestRow}
use Rattle.eg_answer.proofs.FoldLemmas.{Word, fold_below}
use Rattle.eg_answer.proofs.ResultWords.{results-words}
use Rattle.eg_cal.specs.declared.key.CalKey.TheVariants.{PermitPedal, PermitSpeed, PermitTable}
use Rattle.eg_cal.specs.Questions.{word_at, readings_in, row_in}
use Rattle.eg_cal.specs.Contents.{value_of, point_count, read_rows, values_of}
use Rattle.eg_cal.specs.Calibration.{rules_of}

word_at-within : (name : List ℕ) (ms : Members) (n : ℕ) → word_at name ms ≡ Some n → n ≤ 65535
word_at-within name ms n e =
    let found = bind-some (get_member name ms) (number_in 0 65535) n e in
    (number_in-within 0 65535 found.0 n found.1.1).1

seed-word : (ms : Members) (row : TestRow) → row_in ms ≡ Some row → row.seed ≤ 65535
unfolding row_in
seed-word ms row e =
    let seed = bind-some (word_at (codes "seed") ms) _ row e in
    let readings = bind-some (readings_in ms) _ row seed.1.1 in
    let used = bind-some (word_at (codes "used") ms) _ row readings.1.1 in
    let estimated = bind-some (word_at (codes "estimate") ms) _ row used.1.1 in
    let allowed = bind-some (word_at (codes "allowed") ms) _ row estimated.1.1 in
    let is_seed : seed.0 ≡ row.seed = ap (λ (o : Option TestRow). (unwrap_or o row).seed) allowed.1.1 in
    subst (λ n. n ≤ 65535) is_seed (word_at-within (codes "seed") ms seed.0 seed.1.0)

values-words : (ms : Members) → All Word (values_of ms PermitTable)
values-words ms = by (read_rows (point_count ms PermitPedal) (point_count ms PermitSpeed) 10000 ms PermitTable) refl
  where
    by : (o : Option (List ℕ)) → read_rows (point_count ms PermitPedal) (point_count ms PermitSpeed) 10000 ms PermitTable ≡ o → All Word (unwrap_or o [])
    by None e = All-nil Word
    by (Some ns) e =
        let found = bind-some (value_of ms PermitTable) (rows_in (point_count ms PermitPedal) (point_count ms PermitSpeed) 10000) ns e in
        let all = rows_in-within (point_count ms PermitPedal) (point_count ms PermitSpeed) 10000 found.0 ns found.1.1 in
        λ k d below. let within = all k d below in omega (arith, within)

-- the right answer to a question of a file is a word
pub right-word : (ms : Members) (row : TestRow) (of : Members) → row_in of ≡ Some row → expected_of (rules_of ms) row ≤ 65535
unfolding expected_of
right-word ms row of e =
    let seed = seed-word of row e in
    let word = fold_below row.seed (results_of (rules_of ms) row) (omega arith) (results-words (rules_of ms) row (values-words ms)) in
    omega (arith, word)
