-- A file that is refused for no more than wrong answers is accepted once the right ones are put in.
use Rattle.std.proofs.Common.{◌≡◌, ◌⊎◌, inl, inr, ◌∙◌, ℕ, suc, pos, Ordering, Less, Equal, Greater, ◌≤◌, ◌&&◌, Bool, true, false, List, [], ◌∷◌, map, length, All, codes, Option, Some, None, option_map, Ok, if◌then◌else◌, refl, sym, ap, ap₂, subst, arith}
use Rattle.std.specs.Prelude.{unwrap_or}
use Rattle.std.specs.Ordering.{nat_cmp, is_eq, match_ordering}
use Rattle.std.specs.Cmp.Lexicographic.{slice_cmp}
use Rattle.std.proofs.lemmas.Map.Lookups.{exact_bytes}
use Rattle.std.proofs.lemmas.List.Elements.{All-map}
use Rattle.toml.specs.Data.{Data, integer, Items, no_items, item, Members, no_members, member, same_key, get_member, as_table, as_bool}
use Rattle.eg_toml.specs.Values.{table_at, number_in, ◌>>=◌}
use Rattle.eg_toml.specs.Arrays.{count, append_read, all_read, one, items_in, numbers_in, rows_in}
use Rattle.eg_toml.specs.Names.{all_names, is_among}
use Rattle.eg_toml.specs.Refusals.{or_else, unless, unless_some}
use Rattle.eg_toml.proofs.RefusalLemmas.{or-none, none-or, unless-ok}
use Rattle.eg_toml.proofs.RangeLemmas.{bind-some}
use Rattle.eg_toml.proofs.HeldLemmas.{unless_some-none, as_table-is, items_in-is, items-held, natural_in-pos}
use Rattle.eg_torque.specs.declared.ramp.TheConstants.{NO_RAMP}
use Rattle.eg_answer.specs.Answers.{expected_of}
use Rattle.eg_answer.specs.declared.rules.Rules.{Rules}
use Rattle.eg_answer.specs.declared.rules.TestRow.{TestRow}
use Rattle.eg_answer.specs.declared.questions.Question.{Question as QuestionParts}
use Rattle.eg_values.specs.Calibration.{CalibrationParts, HasRightAnswer}
use Rattle.eg_cal.specs.declared.key.CalKey.{CalKey}
use Rattle.eg_cal.specs.declared.key.CalKey.TheVariants.{Version, PermitPedal, PermitSpeed, PermitTable, PermitThreshold, PermitBrake, PermitFall, TorqueKt, TorqueUp, TorqueDown, TorqueLimit, PairsPedal, PairsPlate, PairsLoad, PairsSpeed, PairsUp, PairsDown, PairsLimit, PlantSlew, PlantFill, PlantAngle, PlantCharge, AnswersPeriod, AnswersFirst, AnswersLast, AnswersSend, AnswersUp, AnswersDown, AnswersLimit, Question, Unknown}
use Rattle.eg_cal.specs.declared.key.CalFault.{CalFault}
use Rattle.eg_cal.specs.declared.key.CalFault.TheVariants as fault
use Rattle.eg_cal.specs.Keys.{Content, number, truth, axis, values, grid, questions, nothing, has_brake, has_fall, permit_keys, torque_keys, pairs_keys, plant_keys, answers_keys, all_keys, content_of}
use Rattle.eg_cal.specs.Questions.{question_names, word_at, pair_at, readings_in, row_in, asked_in, question_in, question_of, questions_in}
use Rattle.eg_cal.specs.Contents.{value_of, read_questions, number_as, number_of, version_of, truth_of, points_as, points_of, point_count, values_as, values_of, questions_of}
use Rattle.eg_cal.specs.Checks.{axis_fault, content_fault, fault_at, keys_fault}
use Rattle.eg_cal.specs.Names.{names_of, top_names, has_names, is_all_known}
use Rattle.eg_cal.specs.Calibration.{unanswered_refusal_of, refusal_of, unknown_fault, parts_fault, answer_fault, parts_of, rules_of, calibration_of}
use Rattle.eg_cal.specs.Held.{IsKeyOf}
use Rattle.eg_cal.specs.Answers.{answered, answered_in, with_member, with_answer, items_with, questions_with, with_answers, AnswersLaw}
use Rattle.eg_cal.proofs.TogetherLemmas.{answered-none}
use Rattle.eg_cal.proofs.FoldLemmas.{right-word}
use Rattle.eg_cal.proofs.RuleLemmas.{every_key, all-none, of_version}

-- ---- a member that is changed

at-same : (r : Ordering) (d x : Data) (change : Data → Data) (new old : Option Data) → x ≡ change d → new ≡ option_map change old
    → match_ordering r new (Some (if is_eq r then x else d)) new ≡ option_map change (match_ordering r old (Some d) old)
at-same Less d x change new old is more = more
at-same Equal d x change new old is more = ap Some is
at-same Greater d x change new old is more = more

-- what stands under its name is changed,
get-same : (name : List ℕ) (change : Data → Data) (ms : Members) → get_member name (with_member name change ms) ≡ option_map change (get_member name ms)
get-same name change no_members = refl
get-same name change (member k d ms) = at-same (slice_cmp nat_cmp name k) d (change d) change _ _ refl (get-same name change ms)

at-other : (r : Ordering) (b : Bool) (d x : Data) (new old : Option Data) → (r ≡ Equal → b ≡ false) → new ≡ old
    → match_ordering r new (Some (if b then x else d)) new ≡ match_ordering r old (Some d) old
at-other Less b d x new old apart same = same
at-other Equal b d x new old apart same = rw (apart refl) refl
at-other Greater b d x new old apart same = same

-- what stands under another name isn't,
get-other : (name other : List ℕ) (change : Data → Data) → same_key name other ≡ false → (ms : Members)
    → get_member other (with_member name change ms) ≡ get_member other ms
get-other name other change apart no_members = refl
get-other name other change apart (member k d ms) =
    at-other (slice_cmp nat_cmp other k) (same_key name k) d (change d) _ _
    (λ same. subst (λ (l : List ℕ). same_key name l ≡ false) (exact_bytes other k same) apart) (get-other name other change apart ms)

-- and the names are the same
names-same : (passes : List ℕ → Bool) (name : List ℕ) (change : Data → Data) (ms : Members)
    → all_names passes (with_member name change ms) ≡ all_names passes ms
names-same passes name change no_members = refl
names-same passes name change (member k d ms) = ap (λ b. passes k && b) (names-same passes name change ms)

-- ---- a question with another answer

-- what stands under the other names of a question
word-kept : (name : List ℕ) (change : Data → Data) → same_key (codes "answer") name ≡ false → (ms : Members)
    → word_at name (with_member (codes "answer") change ms) ≡ word_at name ms
word-kept name change apart ms = ap (λ (o : Option Data). o >>= number_in 0 65535) (get-other (codes "answer") name change apart ms)

pair-kept : (name : List ℕ) (change : Data → Data) → same_key (codes "answer") name ≡ false → (ms : Members)
    → pair_at name (with_member (codes "answer") change ms) ≡ pair_at name ms
pair-kept name change apart ms = ap (λ (o : Option Data). o >>= numbers_in 2 2 65535) (get-other (codes "answer") name change apart ms)

row-kept : (change : Data → Data) (ms : Members) → row_in (with_member (codes "answer") change ms) ≡ row_in ms
unfolding row_in readings_in
row-kept change ms = rw (
  word-kept (codes "seed") change refl ms,
  pair-kept (codes "pedal") change refl ms,
  pair-kept (codes "plate") change refl ms,
  pair-kept (codes "load") change refl ms,
  pair-kept (codes "speed") change refl ms,
  word-kept (codes "raise") change refl ms,
  word-kept (codes "check") change refl ms,
  word-kept (codes "used") change refl ms,
  word-kept (codes "estimate") change refl ms,
  word-kept (codes "allowed") change refl ms,
) refl

answer-read : (answer : ℕ) (ms : Members) (old : Data) → get_member (codes "answer") ms ≡ Some old → answer ≤ 65535
    → word_at (codes "answer") (with_member (codes "answer") (λ d. integer (pos answer)) ms) ≡ Some answer
answer-read answer ms old there within =
    ap (λ (o : Option Data). o >>= number_in 0 65535) (get-same (codes "answer") (λ d. integer (pos answer)) ms ∙ ap (option_map (λ d. integer (pos answer))) there)
    ∙ natural_in-pos 0 65535 answer (omega arith) within

-- what a question is read from
pub asked_in-parts : (ms : Members) (q : QuestionParts) → asked_in ms ≡ Some q → (row_in ms ≡ Some q.row) × (word_at (codes "answer") ms ≡ Some q.answer)
unfolding asked_in
asked_in-parts ms q e =
    let row = bind-some (row_in ms) _ q e in
    let answer = bind-some (word_at (codes "answer") ms) _ q row.1.1 in
    let same = answer.1.1 in
    (row.1.0 ∙ (cc), answer.1.0 ∙ (cc))

asked-joined : (ms : Members) (row : TestRow) (answer : ℕ) → row_in ms ≡ Some row → word_at (codes "answer") ms ≡ Some answer
    → asked_in ms ≡ Some (record { row = row; answer = answer })
unfolding asked_in
asked-joined ms row answer is_row is_answer = rw (is_row, is_answer) refl

if-asked : (b : Bool) (o : Option QuestionParts) (q : QuestionParts) → (if b then o else None) ≡ Some q → (b ≡ true) × (o ≡ Some q)
if-asked true o q e = (refl, e)
if-asked false o q e = absurd (cc)

question-answered : (answer : ℕ) (d : Data) (q : QuestionParts) → answer ≤ 65535 → question_of d ≡ Some q
    → question_of (with_answer answer d) ≡ Some (record q { answer = answer })
question-answered answer d q within e =
    let found = bind-some (as_table d) question_in q e in
    let ms = found.0 in
    let change : Data → Data = λ d. integer (pos answer) in
    let chosen = if-asked (all_names (is_among question_names) ms) (asked_in ms) q found.1.1 in
    let parts = asked_in-parts ms q chosen.1 in
    let old = bind-some (get_member (codes "answer") ms) (number_in 0 65535) q.answer parts.1 in
    let whole : question_in (with_member (codes "answer") change ms) ≡ Some (record q { answer = answer }) =
    ap₂ (λ (b : Bool) (o : Option QuestionParts). if b then o else None)
    (names-same (is_among question_names) (codes "answer") change ms ∙ chosen.0)
    (asked-joined (with_member (codes "answer") change ms) q.row answer (row-kept change ms ∙ parts.0) (answer-read answer ms old.0 old.1.0 within)) in
    ap (λ (d : Data). question_of (with_answer answer d)) (as_table-is d ms found.1.0) ∙ whole

-- ---- the questions with other answers

count-with : (answers : List ℕ) (ds : Items) → count (items_with answers ds) ≡ count ds
count-with [] no_items = refl
count-with [] (item d ds) = refl
count-with (answer ∷ answers) no_items = refl
count-with (answer ∷ answers) (item d ds) = ap suc (count-with answers ds)

-- the answer of a question
abbrev answer_of : QuestionParts → ℕ
answer_of question = question.answer

step : (a : Option QuestionParts) (b : Option (List QuestionParts)) (qs : List QuestionParts) → append_read (option_map (λ q. q ∷ []) a) b ≡ Some qs
    → (q : QuestionParts) × ((rest : List QuestionParts) × ((a ≡ Some q) × ((b ≡ Some rest) × (qs ≡ q ∷ rest))))
step None b qs e = absurd (cc)
step (Some q) None qs e = absurd (cc)
step (Some q) (Some rest) qs e = let same : qs ≡ q ∷ rest = cc in (q, (rest, (refl, (refl, same))))

-- each question is read with its answer
items-answered : (rules : Rules) → ((d : Data) (q : QuestionParts) → question_of d ≡ Some q → expected_of rules q.row ≤ 65535)
    → (ds : Items) (qs : List QuestionParts) → all_read (one question_of) ds ≡ Some qs
    → all_read (one question_of) (items_with (map answer_of (map (answered rules) qs)) ds) ≡ Some (map (answered rules) qs)
items-answered rules within no_items qs e = let same : [] ≡ qs = cc in
    subst (λ (qs : List QuestionParts). all_read (one question_of) (items_with (map answer_of (map (answered rules) qs)) no_items) ≡ Some (map (answered rules) qs)) same refl
items-answered rules within (item d ds) qs e =
    let found = step (question_of d) (all_read (one question_of) ds) qs e in
    let q = found.0 in
    let is = found.1.1.0 in
    subst (λ (qs : List QuestionParts). all_read (one question_of) (items_with (map answer_of (map (answered rules) qs)) (item d ds)) ≡ Some (map (answered rules) qs)) (sym found.1.1.1.1)
    (ap₂ append_read (ap (option_map (λ (q : QuestionParts). q ∷ [])) (question-answered (expected_of rules q.row) d q (within d q is) is)) (items-answered rules within ds found.1.0 found.1.1.1.0))

array-answered : (rules : Rules) → ((d : Data) (q : QuestionParts) → question_of d ≡ Some q → expected_of rules q.row ≤ 65535)
    → (d : Data) (qs : List QuestionParts) → questions_in d ≡ Some qs
    → questions_in (questions_with (map answer_of (map (answered rules) qs)) d) ≡ Some (map (answered rules) qs)
array-answered rules within d qs e =
    let found = bind-some (items_in 2 64 d) (all_read (one question_of)) qs e in
    let ds = found.0 in
    let got = items_in-is 2 64 d ds found.1.0 in
    let answers = map answer_of (map (answered rules) qs) in
    let many : count (items_with answers ds) ≡ count ds = count-with answers ds in
    let least = got.1.0 in
    let most = got.1.1 in
    ap (λ (d : Data). questions_in (questions_with answers d)) got.0
    ∙ ap (λ (o : Option Items). o >>= all_read (one question_of)) (items-held 2 64 (items_with answers ds) (count ds) many least most)
    ∙ items-answered rules within ds qs found.1.1

-- ---- what stands under the other keys

-- what stands at the top under another name than `question`
top-kept : (answers : List ℕ) (ms : Members) (name : List ℕ) → same_key (codes "question") name ≡ false → get_member name (with_answers answers ms) ≡ get_member name ms
top-kept answers ms name apart = get-other (codes "question") name (questions_with answers) apart ms

in-table : (answers : List ℕ) (ms : Members) (of name : List ℕ) → same_key (codes "question") of ≡ false
    → (table_at of (with_answers answers ms) >>= get_member name) ≡ (table_at of ms >>= get_member name)
in-table answers ms of name apart = ap (λ (o : Option Data). (o >>= as_table) >>= get_member name) (top-kept answers ms of apart)

key-kept : (answers : List ℕ) (ms : Members) (key : CalKey) → (key ≡ Question) ⊎ (value_of (with_answers answers ms) key ≡ value_of ms key)
key-kept answers ms Version = inr (top-kept answers ms (codes "version") refl)
key-kept answers ms PermitPedal = inr (in-table answers ms (codes "permit") (codes "pedal") refl)
key-kept answers ms PermitSpeed = inr (in-table answers ms (codes "permit") (codes "speed") refl)
key-kept answers ms PermitTable = inr (in-table answers ms (codes "permit") (codes "table") refl)
key-kept answers ms PermitThreshold = inr (in-table answers ms (codes "permit") (codes "threshold") refl)
key-kept answers ms PermitBrake = inr (in-table answers ms (codes "permit") (codes "brake") refl)
key-kept answers ms PermitFall = inr (in-table answers ms (codes "permit") (codes "fall") refl)
key-kept answers ms TorqueKt = inr (in-table answers ms (codes "torque") (codes "kt") refl)
key-kept answers ms TorqueUp = inr (in-table answers ms (codes "torque") (codes "up") refl)
key-kept answers ms TorqueDown = inr (in-table answers ms (codes "torque") (codes "down") refl)
key-kept answers ms TorqueLimit = inr (in-table answers ms (codes "torque") (codes "limit") refl)
key-kept answers ms PairsPedal = inr (in-table answers ms (codes "pairs") (codes "pedal") refl)
key-kept answers ms PairsPlate = inr (in-table answers ms (codes "pairs") (codes "plate") refl)
key-kept answers ms PairsLoad = inr (in-table answers ms (codes "pairs") (codes "load") refl)
key-kept answers ms PairsSpeed = inr (in-table answers ms (codes "pairs") (codes "speed") refl)
key-kept answers ms PairsUp = inr (in-table answers ms (codes "pairs") (codes "up") refl)
key-kept answers ms PairsDown = inr (in-table answers ms (codes "pairs") (codes "down") refl)
key-kept answers ms PairsLimit = inr (in-table answers ms (codes "pairs") (codes "limit") refl)
key-kept answers ms PlantSlew = inr (in-table answers ms (codes "plant") (codes "slew") refl)
key-kept answers ms PlantFill = inr (in-table answers ms (codes "plant") (codes "fill") refl)
key-kept answers ms PlantAngle = inr (in-table answers ms (codes "plant") (codes "angle") refl)
key-kept answers ms PlantCharge = inr (in-table answers ms (codes "plant") (codes "charge") refl)
key-kept answers ms AnswersPeriod = inr (in-table answers ms (codes "answers") (codes "period") refl)
key-kept answers ms AnswersFirst = inr (in-table answers ms (codes "answers") (codes "first") refl)
key-kept answers ms AnswersLast = inr (in-table answers ms (codes "answers") (codes "last") refl)
key-kept answers ms AnswersSend = inr (in-table answers ms (codes "answers") (codes "send") refl)
key-kept answers ms AnswersUp = inr (in-table answers ms (codes "answers") (codes "up") refl)
key-kept answers ms AnswersDown = inr (in-table answers ms (codes "answers") (codes "down") refl)
key-kept answers ms AnswersLimit = inr (in-table answers ms (codes "answers") (codes "limit") refl)
key-kept answers ms Question = inl refl
key-kept answers ms Unknown = inr (top-kept answers ms (codes "unknown") refl)

as-kept : (content : Content) (ms ts : Members) (key : CalKey) → value_of ts key ≡ value_of ms key
    → (number_as content ts key ≡ number_as content ms key) × (points_as content ts key ≡ points_as content ms key)
as-kept (number low high) ms ts key same = (ap (λ (o : Option Data). unwrap_or (o >>= number_in low high) 0) same, refl)
as-kept truth ms ts key same = (refl, refl)
as-kept (axis high) ms ts key same = (refl, ap (λ (o : Option Data). unwrap_or (o >>= numbers_in 2 16 high) []) same)
as-kept (values along high) ms ts key same = (refl, refl)
as-kept (grid down across high) ms ts key same = (refl, refl)
as-kept questions ms ts key same = (refl, refl)
as-kept nothing ms ts key same = (refl, refl)

-- what holds of the questions, and of each key under which the same stands, holds of each key
by_key : (P : CalKey → Type 0) (answers : List ℕ) (ms : Members) (key : CalKey) → P Question → (value_of (with_answers answers ms) key ≡ value_of ms key → P key) → P key
by_key P answers ms key asked kept = elim (key-kept answers ms key) [ inl is ↦ subst P (sym is) asked | inr same ↦ kept same ]

number-kept : (answers : List ℕ) (ms : Members) (key : CalKey) → number_of (with_answers answers ms) key ≡ number_of ms key
number-kept answers ms key =
    by_key (λ k. number_of (with_answers answers ms) k ≡ number_of ms k) answers ms key refl (λ same. (as-kept (content_of key) ms (with_answers answers ms) key same).0)

points-kept : (answers : List ℕ) (ms : Members) (key : CalKey) → points_of (with_answers answers ms) key ≡ points_of ms key
points-kept answers ms key =
    by_key (λ k. points_of (with_answers answers ms) k ≡ points_of ms k) answers ms key refl (λ same. (as-kept (content_of key) ms (with_answers answers ms) key same).1)

-- the values of a table depend on how many points its axes have
values_as-kept : (content : Content) (ms ts : Members) (key : CalKey) → ((k : CalKey) → points_of ts k ≡ points_of ms k)
    → value_of ts key ≡ value_of ms key → values_as content ts key ≡ values_as content ms key
values_as-kept (number low high) ms ts key points same = refl
values_as-kept truth ms ts key points same = refl
values_as-kept (axis high) ms ts key points same = refl
values_as-kept (values along high) ms ts key points same =
    ap₂ (λ (n : ℕ) (o : Option Data). unwrap_or (o >>= numbers_in n n high) []) (ap length (points along)) same
values_as-kept (grid down across high) ms ts key points same =
    ap (λ (n : ℕ). unwrap_or (value_of ts key >>= rows_in n (point_count ts across) high) []) (ap length (points down))
    ∙ ap₂ (λ (n : ℕ) (o : Option Data). unwrap_or (o >>= rows_in (point_count ms down) n high) []) (ap length (points across)) same
values_as-kept questions ms ts key points same = refl
values_as-kept nothing ms ts key points same = refl

values-kept : (answers : List ℕ) (ms : Members) (key : CalKey) → values_of (with_answers answers ms) key ≡ values_of ms key
values-kept answers ms key =
    by_key (λ k. values_of (with_answers answers ms) k ≡ values_of ms k) answers ms key refl
    (λ same. values_as-kept (content_of key) ms (with_answers answers ms) key (points-kept answers ms) same)

truth-kept : (answers : List ℕ) (ms : Members) → truth_of (with_answers answers ms) PermitBrake ≡ truth_of ms PermitBrake
truth-kept answers ms = ap (λ (o : Option Data). unwrap_or (o >>= as_bool) false) (in-table answers ms (codes "permit") (codes "brake") refl)

content-kept : (content : Content) (ms ts : Members) (key : CalKey) → ((k : CalKey) → points_of ts k ≡ points_of ms k)
    → value_of ts key ≡ value_of ms key → content_fault content ts key ≡ content_fault content ms key
content-kept (number low high) ms ts key points same = ap (λ (o : Option Data). unless_some (fault.Key key) (o >>= number_in low high)) same
content-kept truth ms ts key points same = ap (λ (o : Option Data). unless_some (fault.Key key) (o >>= as_bool)) same
content-kept (axis high) ms ts key points same = ap (λ (o : Option Data). axis_fault key (o >>= numbers_in 2 16 high)) same
content-kept (values along high) ms ts key points same =
    ap₂ (λ (n : ℕ) (o : Option Data). unless_some (fault.Key key) (o >>= numbers_in n n high)) (ap length (points along)) same
content-kept (grid down across high) ms ts key points same =
    ap (λ (n : ℕ). unless_some (fault.Key key) (value_of ts key >>= rows_in n (point_count ts across) high)) (ap length (points down))
    ∙ ap₂ (λ (n : ℕ) (o : Option Data). unless_some (fault.Key key) (o >>= rows_in (point_count ms down) n high)) (ap length (points across)) same
content-kept questions ms ts key points same = ap (λ (o : Option Data). unless_some (fault.Key key) (o >>= questions_in)) same
content-kept nothing ms ts key points same = refl

-- where a key had no fault, and the questions have none now, it has none
fault-kept : (answers : List ℕ) (ms : Members) (key : CalKey) → fault_at ms key ≡ None → fault_at (with_answers answers ms) Question ≡ None
    → fault_at (with_answers answers ms) key ≡ None
fault-kept answers ms key before asked =
    by_key (λ k. fault_at (with_answers answers ms) k ≡ None) answers ms key asked
    (λ same. content-kept (content_of key) ms (with_answers answers ms) key (points-kept answers ms) same ∙ before)

has_names-kept : (answers : List ℕ) (ms : Members) (known : List (List ℕ)) (of : List ℕ) → same_key (codes "question") of ≡ false
    → has_names known (table_at of (with_answers answers ms)) ≡ has_names known (table_at of ms)
has_names-kept answers ms known of apart = ap (λ (o : Option Data). has_names known (o >>= as_table)) (top-kept answers ms of apart)

known-kept : (answers : List ℕ) (ms : Members) (version : ℕ) → is_all_known version (with_answers answers ms) ≡ is_all_known version ms
unfolding is_all_known
known-kept answers ms version = six
    (names-same (is_among top_names) (codes "question") (questions_with answers) ms)
    (has_names-kept answers ms (names_of (permit_keys version)) (codes "permit") refl)
    (has_names-kept answers ms (names_of torque_keys) (codes "torque") refl)
    (has_names-kept answers ms (names_of pairs_keys) (codes "pairs") refl)
    (has_names-kept answers ms (names_of plant_keys) (codes "plant") refl)
    (has_names-kept answers ms (names_of answers_keys) (codes "answers") refl)
  where
    six : {a b c d e f u v w x y z : Bool} → a ≡ u → b ≡ v → c ≡ w → d ≡ x → e ≡ y → f ≡ z
        → (a && b && c && d && e && f) ≡ (u && v && w && x && y && z)
    six a b c d e f = λ i. a i && b i && c i && d i && e i && f i

-- all parts but the questions
parts-kept : (answers : List ℕ) (ms : Members) (asked : List QuestionParts) → questions_of (with_answers answers ms) Question ≡ asked
    → parts_of (with_answers answers ms) ≡ record (parts_of ms) { questions = asked }
parts-kept answers ms asked are =
    let n = number-kept answers ms in
    let points = points-kept answers ms in
    let values = values-kept answers ms in
    λ i. record {
      rules = record {
        permit = record { rows = points PermitPedal i; columns = points PermitSpeed i; values = values PermitTable i };
        fall = if has_fall (n Version i) then n PermitFall i else NO_RAMP;
        kt = n TorqueKt i;
        threshold = n PermitThreshold i;
        tolerances = n PairsPedal i ∷ n PairsPlate i ∷ n PairsLoad i ∷ n PairsSpeed i ∷ [];
        pair = record { up = n PairsUp i; down = n PairsDown i; limit = n PairsLimit i };
        torque = record { up = n TorqueUp i; down = n TorqueDown i; limit = n TorqueLimit i };
      };
      plant = record {
        slew = n PlantSlew i;
        fill = n PlantFill i;
        charge = record { axis = points PlantAngle i; values = values PlantCharge i };
        kt = n TorqueKt i;
      };
      times = record {
        period = n AnswersPeriod i;
        first = n AnswersFirst i;
        last = n AnswersLast i;
        send = n AnswersSend i;
        weights = record { up = n AnswersUp i; down = n AnswersDown i; limit = n AnswersLimit i };
      };
      questions = are i;
      brake = has_brake (n Version i) && truth-kept answers ms i;
    }

-- ---- the law

-- whatever the answers were, the right ones are right
all-answered : (rules : Rules) (qs : List QuestionParts) → All (HasRightAnswer rules) (map (answered rules) qs)
all-answered rules qs = All-map (HasRightAnswer rules) (answered rules) qs (λ i d below. refl)

accepted : (ms : Members) → unanswered_refusal_of ms ≡ None
    → ((d : Data) (q : QuestionParts) → question_of d ≡ Some q → expected_of (rules_of ms) q.row ≤ 65535)
    → calibration_of (Some (with_answers (map answer_of (answered_in (parts_of ms))) ms)) ≡ Ok (record (parts_of ms) { questions = answered_in (parts_of ms) })
accepted ms none within =
    let asked = answered_in (parts_of ms) in
    let answers = map answer_of asked in
    let ts = with_answers answers ms in
    let (keys, rest) = or-none (keys_fault ms (all_keys (version_of ms))) (or_else (unknown_fault ms) (parts_fault (parts_of ms))) none in
    let (names, parts) = or-none (unknown_fault ms) (parts_fault (parts_of ms)) rest in
    let (qs, read) = unless_some-none (fault.Key Question) (read_questions ms Question) (every_key ms (version_of ms) keys Question tt) in
    let found = bind-some (value_of ms Question) questions_in qs read in
    let same : questions_of ms Question ≡ qs = ap (λ (o : Option (List QuestionParts)). unwrap_or o []) read in
    let held : (get_member (codes "question") ts >>= questions_in) ≡ Some asked =
    ap (λ (o : Option Data). o >>= questions_in) (get-same (codes "question") (questions_with answers) ms ∙ ap (option_map (questions_with answers)) found.1.0)
    ∙ subst (λ (l : List QuestionParts). questions_in (questions_with (map answer_of (map (answered (rules_of ms)) l)) found.0) ≡ Some (map (answered (rules_of ms)) l)) (sym same)
    (array-answered (rules_of ms) within found.0 qs found.1.1) in
    let are : questions_of ts Question ≡ asked = ap (λ (o : Option (List QuestionParts)). unwrap_or o []) held in
    let whole : parts_of ts ≡ record (parts_of ms) { questions = asked } = parts-kept answers ms asked are in
    let version : version_of ts ≡ version_of ms = number-kept answers ms Version in
    let each : (key : CalKey) → IsKeyOf (version_of ms) key → fault_at ts key ≡ None = λ key of.
    fault-kept answers ms key (every_key ms (version_of ms) keys key of) (ap (unless_some (fault.Key Question)) held) in
    let no_key : keys_fault ts (all_keys (version_of ts)) ≡ None =
    subst (λ v. keys_fault ts (all_keys v) ≡ None) (sym version) (all-none ts (version_of ms) each (all_keys (version_of ms)) (of_version (version_of ms))) in
    let no_name : unknown_fault ts ≡ None =
    subst (λ v. (if is_all_known v ts then None else Some (fault.Key Unknown)) ≡ None) (sym version)
    (ap (λ b. if b then None else Some (fault.Key Unknown)) (known-kept answers ms (version_of ms)) ∙ names) in
    let no_parts : parts_fault (parts_of ts) ≡ None = subst (λ (p : CalibrationParts). parts_fault p ≡ None) (sym whole) parts in
    let no_answer : answer_fault (parts_of ts) ≡ None =
    subst (λ (p : CalibrationParts). answer_fault p ≡ None) (sym whole)
    (ap (option_map fault.Answer) (answered-none (rules_of ms) asked (all-answered (rules_of ms) (questions_of ms Question)))) in
    let no_refusal : refusal_of ts ≡ None = none-or _ _ (none-or _ _ no_key (none-or _ _ no_name no_parts)) no_answer in
    ap (λ (o : Option CalFault). unless o (parts_of ts)) no_refusal ∙ ap Ok whole

question-word : (ms : Members) (d : Data) (q : QuestionParts) → question_of d ≡ Some q → expected_of (rules_of ms) q.row ≤ 65535
question-word ms d q e =
    let found = bind-some (as_table d) question_in q e in
    let chosen = if-asked (all_names (is_among question_names) found.0) (asked_in found.0) q found.1.1 in
    right-word ms q.row found.0 (asked_in-parts found.0 q chosen.1).0

pub answers_law : AnswersLaw
answers_law ms asked e =
    let (none, same) = unless-ok (unanswered_refusal_of ms) (answered_in (parts_of ms)) asked e in
    subst (λ (qs : List QuestionParts). calibration_of (Some (with_answers (map answer_of qs) ms)) ≡ Ok (record (parts_of ms) { questions = qs })) (sym same) (accepted ms none (question-word ms))
