-- A document is accepted exactly if it keeps the rules.
use Rattle.std.proofs.Common.{◌≡◌, ℕ, ◌+◌, ◌-◌, ◌<◌, ◌≤◌, nat_lt, nat_le, is_some, Bool, true, false, ◌&&◌, length, List, [], ◌∷◌, Option, Some, None, option_map, if◌then◌else◌, Ok, refl, sym, ap, arith}
use Rattle.std.specs.List.{AllByRecursion}
use Rattle.std.proofs.lemmas.Bool.{and_parts}
use Rattle.std.proofs.lemmas.Bool.Decides.{nat_tests}
use Rattle.toml.specs.Data.{Members}
use Rattle.eg_num.specs.Interpolation.{Grid, cell}
use Rattle.eg_torque.specs.Permit.{DoesNotFall}
use Rattle.eg_answer.specs.Times.{TimeParts}
use Rattle.eg_cal.specs.declared.key.CalKey.{CalKey}
use Rattle.eg_cal.specs.declared.key.CalKey.TheVariants.{Version, PermitPedal, PermitSpeed, PermitTable, PermitThreshold, PermitBrake, PermitFall, TorqueKt, TorqueUp, TorqueDown, TorqueLimit, PairsPedal, PairsPlate, PairsLoad, PairsSpeed, PairsUp, PairsDown, PairsLimit, PlantSlew, PlantFill, PlantAngle, PlantCharge, AnswersPeriod, AnswersFirst, AnswersLast, AnswersSend, AnswersUp, AnswersDown, AnswersLimit, Question, Unknown}
use Rattle.eg_cal.specs.declared.key.CalFault.TheVariants as fault
use Rattle.eg_cal.specs.Keys.{has_brake, has_fall, brake_keys, fall_keys, all_keys, content_of}
use Rattle.eg_toml.specs.Refusals.{or_else}
use Rattle.eg_toml.proofs.RefusalLemmas.{or-none, none-or, map-none, if-none, unless-ok}
use Rattle.eg_cal.specs.Contents.{version_of}
use Rattle.eg_cal.specs.Checks.{fault_at, first_fault, keys_fault}
use Rattle.eg_cal.specs.Calibration.{falls, falling_row, is_window, rising_fault, window_fault, answer_fault, parts_fault, unknown_fault, unanswered_refusal_of, refusal_of, permit_of, times_of, parts_of}
use Rattle.eg_cal.specs.Held.{IsKeyOf}
use Rattle.eg_cal.specs.Rules.{IsWindow, KeepsRules, AcceptedLaw}
use Rattle.eg_cal.proofs.HeldLemmas.{content-held}
use Rattle.eg_cal.proofs.TogetherLemmas.{none-first_from, falling_row-none, wrong_answer-none, answered-none}

-- ---- keys

none-each : (ms : Members) (keys : List CalKey) → first_fault ms keys ≡ None → AllByRecursion (λ key. fault_at ms key ≡ None) keys
unfolding first_fault
none-each ms [] e = tt
none-each ms (key ∷ keys) e =
    let (here, more) = or-none (fault_at ms key) (first_fault ms keys) e in
    (here, none-each ms keys more)

none-all : (ms : Members) (tables : List (List CalKey)) → keys_fault ms tables ≡ None → AllByRecursion (λ keys. AllByRecursion (λ key. fault_at ms key ≡ None) keys) tables
none-all ms [] e = tt
none-all ms (keys ∷ tables) e =
    let (here, more) = or-none (first_fault ms keys) (keys_fault ms tables) e in
    (none-each ms keys here, none-all ms tables more)

each-none : (ms : Members) (version : ℕ) → ((key : CalKey) → IsKeyOf version key → fault_at ms key ≡ None)
    → (keys : List CalKey) → AllByRecursion (IsKeyOf version) keys → first_fault ms keys ≡ None
unfolding first_fault
each-none ms version each [] of_version = refl
each-none ms version each (key ∷ keys) of_version =
    none-or (fault_at ms key) (first_fault ms keys) (each key of_version.0) (each-none ms version each keys of_version.1)

pub all-none : (ms : Members) (version : ℕ) → ((key : CalKey) → IsKeyOf version key → fault_at ms key ≡ None)
    → (tables : List (List CalKey)) → AllByRecursion (λ keys. AllByRecursion (IsKeyOf version) keys) tables → keys_fault ms tables ≡ None
all-none ms version each [] of_version = refl
all-none ms version each (keys ∷ tables) of_version =
    none-or (first_fault ms keys) (keys_fault ms tables) (each-none ms version each keys of_version.0) (all-none ms version each tables of_version.1)

-- a key is among those of a version exactly if the version has it
if-had : (has : Bool) (version : ℕ) (key : CalKey) (more : List CalKey) → (has ≡ true → IsKeyOf version key)
    → AllByRecursion (IsKeyOf version) more → AllByRecursion (IsKeyOf version) (if has then key ∷ more else [])
if-had true version key more h all = (h refl, all)
if-had false version key more h all = tt

from-two : (version : ℕ) → has_brake version ≡ true → 2 ≤ version
from-two version h = grind (arith, nat_tests)

from-three : (version : ℕ) → has_fall version ≡ true → 3 ≤ version
from-three version h = grind (arith, nat_tests)

two-has : (version : ℕ) → 2 ≤ version → has_brake version ≡ true
two-has version h = grind (arith, nat_tests)

three-has : (version : ℕ) → 3 ≤ version → has_fall version ≡ true
three-has version h = grind (arith, nat_tests)

-- the later keys of `permit` are of a version that has them
later-had : (version : ℕ) → AllByRecursion (IsKeyOf version) (brake_keys version)
later-had version =
    if-had (has_brake version) version PermitBrake (fall_keys version) (from-two version)
    (if-had (has_fall version) version PermitFall [] (from-three version) tt)

-- where none of such keys has a fault, this one has none, nor have those behind it
had : (ms : Members) (has : Bool) (key : CalKey) (more : List CalKey) → has ≡ true
    → AllByRecursion (λ key. fault_at ms key ≡ None) (if has then key ∷ more else []) → (fault_at ms key ≡ None) × AllByRecursion (λ key. fault_at ms key ≡ None) more
had ms true key more is all = all
had ms false key more is all = absurd (cc)

brake_key : (ms : Members) (version : ℕ) → 2 ≤ version → AllByRecursion (λ key. fault_at ms key ≡ None) (brake_keys version) → fault_at ms PermitBrake ≡ None
brake_key ms version from all = (had ms (has_brake version) PermitBrake (fall_keys version) (two-has version from) all).0

fall_key : (ms : Members) (version : ℕ) → 3 ≤ version → AllByRecursion (λ key. fault_at ms key ≡ None) (brake_keys version) → fault_at ms PermitFall ≡ None
fall_key ms version from all =
    let falls = (had ms (has_brake version) PermitBrake (fall_keys version) (two-has version (omega arith)) all).1 in
    (had ms (has_fall version) PermitFall [] (three-has version from) falls).0

-- the keys of a version are of that version
pub of_version : (version : ℕ) → AllByRecursion (λ keys. AllByRecursion (IsKeyOf version) keys) (all_keys version)
of_version version = (
  (tt, tt),
  (
    (tt, (tt, (tt, (tt, later-had version)))),
    (
      (tt, (tt, (tt, (tt, tt)))),
      (
        (tt, (tt, (tt, (tt, (tt, (tt, (tt, tt))))))),
        ((tt, (tt, (tt, (tt, tt)))), ((tt, (tt, (tt, (tt, (tt, (tt, (tt, tt))))))), ((tt, tt), tt))),
      ),
    ),
  ),
)

-- where no key of a version has a fault, none of that version has
pub every_key : (ms : Members) (version : ℕ) → keys_fault ms (all_keys version) ≡ None → (key : CalKey) → IsKeyOf version key → fault_at ms key ≡ None
every_key ms version e Version h = (none-all ms (all_keys version) e).0.0
every_key ms version e PermitPedal h = (none-all ms (all_keys version) e).1.0.0
every_key ms version e PermitSpeed h = (none-all ms (all_keys version) e).1.0.1.0
every_key ms version e PermitTable h = (none-all ms (all_keys version) e).1.0.1.1.0
every_key ms version e PermitThreshold h = (none-all ms (all_keys version) e).1.0.1.1.1.0
every_key ms version e PermitBrake h = brake_key ms version h (none-all ms (all_keys version) e).1.0.1.1.1.1
every_key ms version e PermitFall h = fall_key ms version h (none-all ms (all_keys version) e).1.0.1.1.1.1
every_key ms version e TorqueKt h = (none-all ms (all_keys version) e).1.1.0.0
every_key ms version e TorqueUp h = (none-all ms (all_keys version) e).1.1.0.1.0
every_key ms version e TorqueDown h = (none-all ms (all_keys version) e).1.1.0.1.1.0
every_key ms version e TorqueLimit h = (none-all ms (all_keys version) e).1.1.0.1.1.1.0
every_key ms version e PairsPedal h = (none-all ms (all_keys version) e).1.1.1.0.0
every_key ms version e PairsPlate h = (none-all ms (all_keys version) e).1.1.1.0.1.0
every_key ms version e PairsLoad h = (none-all ms (all_keys version) e).1.1.1.0.1.1.0
every_key ms version e PairsSpeed h = (none-all ms (all_keys version) e).1.1.1.0.1.1.1.0
every_key ms version e PairsUp h = (none-all ms (all_keys version) e).1.1.1.0.1.1.1.1.0
every_key ms version e PairsDown h = (none-all ms (all_keys version) e).1.1.1.0.1.1.1.1.1.0
every_key ms version e PairsLimit h = (none-all ms (all_keys version) e).1.1.1.0.1.1.1.1.1.1.0
every_key ms version e PlantSlew h = (none-all ms (all_keys version) e).1.1.1.1.0.0
every_key ms version e PlantFill h = (none-all ms (all_keys version) e).1.1.1.1.0.1.0
every_key ms version e PlantAngle h = (none-all ms (all_keys version) e).1.1.1.1.0.1.1.0
every_key ms version e PlantCharge h = (none-all ms (all_keys version) e).1.1.1.1.0.1.1.1.0
every_key ms version e AnswersPeriod h = (none-all ms (all_keys version) e).1.1.1.1.1.0.0
every_key ms version e AnswersFirst h = (none-all ms (all_keys version) e).1.1.1.1.1.0.1.0
every_key ms version e AnswersLast h = (none-all ms (all_keys version) e).1.1.1.1.1.0.1.1.0
every_key ms version e AnswersSend h = (none-all ms (all_keys version) e).1.1.1.1.1.0.1.1.1.0
every_key ms version e AnswersUp h = (none-all ms (all_keys version) e).1.1.1.1.1.0.1.1.1.1.0
every_key ms version e AnswersDown h = (none-all ms (all_keys version) e).1.1.1.1.1.0.1.1.1.1.1.0
every_key ms version e AnswersLimit h = (none-all ms (all_keys version) e).1.1.1.1.1.0.1.1.1.1.1.1.0
every_key ms version e Question h = (none-all ms (all_keys version) e).1.1.1.1.1.1.0.0
every_key ms version e Unknown h = refl

-- ---- values together

flat : (a b : ℕ) → nat_lt a b ≡ false → b ≤ a
flat a b h = grind (arith, nat_tests)

is_some-none : (o : Option ℕ) → is_some o ≡ false → o ≡ None
is_some-none None e = refl
is_some-none (Some i) e = absurd (cc)

flat_at : (g : Grid) (i k j : ℕ) → falling_row g ≡ None → k ≡ i + 1 → k < length g.rows → j < length g.columns → cell g i j ≤ cell g k j
flat_at g i k j none e row column =
    let level = is_some-none _ (none-first_from (falls g) (length g.rows - 1) 1 none k (omega arith) (omega arith)) in
    let below : cell g (k - 1) j ≤ cell g k j = flat _ _ (none-first_from (λ j. nat_lt (cell g k j) (cell g (k - 1) j)) (length g.columns) 0 level j (omega arith) (omega arith)) in
    let before : k - 1 ≡ i = omega arith in
    rw before at below

rises-from : (g : Grid) → falling_row g ≡ None → DoesNotFall g
rises-from g none i j row column = flat_at g i (i + 1) j none refl row column

window-from : (t : TimeParts) → is_window t ≡ true → IsWindow t
window-from t passed =
    let (inner, inside) = and_parts (nat_le t.first t.send && nat_le t.send t.last) (nat_lt t.last t.period) passed in
    let (from, to) = and_parts (nat_le t.first t.send) (nat_le t.send t.last) inner in
    record { from_first = grind (arith, nat_tests); to_last = grind (arith, nat_tests); inside = grind (arith, nat_tests) }

three : (a b c : Bool) → a ≡ true → b ≡ true → c ≡ true → (a && b && c) ≡ true
three a b c e f g = rw (e, f, g) refl

window-true : (t : TimeParts) → IsWindow t → is_window t ≡ true
window-true t w =
    let from = w.from_first in
    let to = w.to_last in
    let inside = w.inside in
    three (nat_le t.first t.send) (nat_le t.send t.last) (nat_lt t.last t.period) (grind (arith, nat_tests)) (grind (arith, nat_tests)) (grind (arith, nat_tests))

-- ---- the law

keeps : (ms : Members) → refusal_of ms ≡ None → KeepsRules ms
keeps ms e =
    let (others, answers) = or-none (unanswered_refusal_of ms) (answer_fault (parts_of ms)) e in
    let (keys, rest) = or-none (keys_fault ms (all_keys (version_of ms))) (or_else (unknown_fault ms) (parts_fault (parts_of ms))) others in
    let (names, parts) = or-none (unknown_fault ms) (parts_fault (parts_of ms)) rest in
    let (rising, window) = or-none (rising_fault (permit_of ms)) (window_fault (times_of ms)) parts in
    record {
      keys = λ key of. (content-held (content_of key) ms key).0 (every_key ms (version_of ms) keys key of);
      names = if-none _ _ names;
      rises = rises-from _ (map-none _ _ rising);
      window = window-from _ (if-none _ _ window);
      answers = wrong_answer-none _ _ (map-none _ _ answers);
    }

no_refusal : (ms : Members) → KeepsRules ms → refusal_of ms ≡ None
no_refusal ms k =
    none-or _ _ (none-or _ _ (all-none ms (version_of ms) (λ key of. (content-held (content_of key) ms key).1 (k.keys key of)) (all_keys (version_of ms)) (of_version (version_of ms))) (none-or _ _ (rw (k.names) refl)
    (none-or _ _ (ap (option_map fault.Rising) (falling_row-none _ k.rises)) (rw (window-true _ k.window) refl))))
    (ap (option_map fault.Answer) (answered-none _ _ k.answers))

pub accepted_law : AcceptedLaw
accepted_law ms parts = (
  (λ e. let (none, same) = unless-ok (refusal_of ms) (parts_of ms) parts e in (keeps ms none, same)),
  (λ h. rw (no_refusal ms h.0) (ap Ok (sym h.1))),
)
