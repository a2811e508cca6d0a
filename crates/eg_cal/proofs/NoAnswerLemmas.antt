-- Where the right answers are asked for, no file is refused for wrong ones.
use Rattle.std.proofs.Common.{◌≡◌, ◌≢◌, ℕ, Bool, true, false, List, [], ◌∷◌, Option, Some, None, option_map, if◌then◌else◌, subst}
use Rattle.std.specs.Prelude.{Err}
use Rattle.toml.specs.Data.{Members}
use Rattle.eg_toml.specs.Arrays.{is_rising}
use Rattle.eg_toml.specs.Refusals.{or_else, unless, unless_some}
use Rattle.eg_cal.specs.declared.key.CalKey.{CalKey}
use Rattle.eg_cal.specs.declared.key.CalKey.TheVariants.{Unknown}
use Rattle.eg_cal.specs.declared.key.CalFault.{CalFault}
use Rattle.eg_cal.specs.declared.key.CalFault.TheVariants as fault
use Rattle.eg_cal.specs.Keys.{Content, number, truth, axis, values, grid, questions, nothing, all_keys, content_of}
use Rattle.eg_cal.specs.Contents.{version_of, read_numbers}
use Rattle.eg_cal.specs.Checks.{axis_fault, content_fault, first_fault, keys_fault}
use Rattle.eg_cal.specs.Names.{is_all_known}
use Rattle.eg_cal.specs.Calibration.{falling_row, is_window, unanswered_refusal_of, parts_of}
use Rattle.eg_cal.specs.Answers.{NoAnswerLaw}

-- a fault, if there is one, is none of an answer
abbrev OfNoAnswer : Option CalFault → Type 0
OfNoAnswer (Some (fault.Answer n)) = ⊥
OfNoAnswer _ = Unit {0}

of-or : (a b : Option CalFault) → OfNoAnswer a → OfNoAnswer b → OfNoAnswer (or_else a b)
of-or None b first second = second
of-or (Some f) b first second = first

of-key : {X : Type 0} (key : CalKey) (o : Option X) → OfNoAnswer (unless_some (fault.Key key) o)
of-key key None = tt
of-key key (Some x) = tt

of-test : (good : Bool) (f : CalFault) → OfNoAnswer (Some f) → OfNoAnswer (if good then None else Some f)
of-test true f none = tt
of-test false f none = none

of-axis : (key : CalKey) (o : Option (List ℕ)) → OfNoAnswer (axis_fault key o)
of-axis key None = tt
of-axis key (Some points) = of-test (is_rising points) (fault.Axis key) tt

of-content : (content : Content) (ms : Members) (key : CalKey) → OfNoAnswer (content_fault content ms key)
of-content (number low high) ms key = of-key key _
of-content truth ms key = of-key key _
of-content (axis high) ms key = of-axis key (read_numbers 2 16 high ms key)
of-content (values along high) ms key = of-key key _
of-content (grid down across high) ms key = of-key key _
of-content questions ms key = of-key key _
of-content nothing ms key = tt

of-keys : (ms : Members) (keys : List CalKey) → OfNoAnswer (first_fault ms keys)
unfolding first_fault
of-keys ms [] = tt
of-keys ms (key ∷ keys) = of-or _ (first_fault ms keys) (of-content (content_of key) ms key) (of-keys ms keys)

of-tables : (ms : Members) (tables : List (List CalKey)) → OfNoAnswer (keys_fault ms tables)
of-tables ms [] = tt
of-tables ms (keys ∷ tables) = of-or (first_fault ms keys) (keys_fault ms tables) (of-keys ms keys) (of-tables ms tables)

of-rows : (row : Option ℕ) → OfNoAnswer (option_map fault.Rising row)
of-rows None = tt
of-rows (Some row) = tt

of-refusal : (ms : Members) → OfNoAnswer (unanswered_refusal_of ms)
of-refusal ms =
    of-or _ _ (of-tables ms (all_keys (version_of ms)))
    (of-or _ _ (of-test (is_all_known (version_of ms) ms) (fault.Key Unknown) tt)
    (of-or _ _ (of-rows (falling_row (parts_of ms).rules.permit)) (of-test (is_window (parts_of ms).times) fault.Window tt)))

unless-never : {X : Type 0} (refusal : Option CalFault) (x : X) (n : ℕ) → OfNoAnswer refusal → unless refusal x ≢ Err (fault.Answer n)
unless-never None x n none is = absurd (cc)
unless-never (Some f) x n none is = subst (λ (g : CalFault). OfNoAnswer (Some g)) (let same : f ≡ fault.Answer n = cc in same) none

pub no_answer_law : NoAnswerLaw
no_answer_law None n is = absurd (cc)
no_answer_law (Some ms) n is = unless-never (unanswered_refusal_of ms) _ n (of-refusal ms) is
