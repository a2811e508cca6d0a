-- What comes of a line of a partner, by what was tested of it.
use Rattle.std.proofs.Common.{◌≡◌, ◌∙◌, sym, ap, refl, inl, ℕ, ◌+◌, ◌<◌, Bool, true, false, arith, Option, Some, None, List, [], ◌∷◌, length}
use Rattle.std.specs.Prelude.{◌==◌, not, ◌&&◌, take, Result, Ok, Err, IsErrAnd, if◌then◌else◌}
use Rattle.eg_lines.specs.Lines.{ShownLines}
use Rattle.eg_outcome.specs.Changes.{Change}
use Rattle.eg_outcome.specs.Lines.{Line, Come, ReadsWell, LineComes}
use Rattle.eg_outcome.specs.declared.outcome.Outcome.{Outcome}
use Rattle.eg_outcome.specs.declared.outcome.Outcome.TheVariants.{Refused}
use Rattle.eg_outcome.proofs.ComingLemmas.{seen_line}
use Rattle.eg_input.specs.Answering.{answer_of}
use Rattle.eg_input.specs.declared.answered.PartnerAnswer.{PartnerAnswer}
use Rattle.eg_input.specs.declared.answered.TheConstants.{MOST_ANSWER_BYTES}
use Rattle.eg_input.proofs.LengthLaws.{answer_of-seen}
use Rattle.eg_tick.specs.Commanding.{commanded_at}
use Rattle.eg_stream.specs.Coupled.{CoupledUnit, Objection, NoAnswer, LoadBelowTorque, TorqueWhileOff, entries_by, covers, lawful, lawful_if_any, taken}
use Rattle.eg_stream.specs.Couplings.{refusal_of}
use Rattle.eg_stream.specs.Inner.Running.{outcome_of, AnswerComes}

-- ---- what is taken of a line ----

-- what comes of an answer, by its two tests
abbrev judged : PartnerAnswer → (covered on none : Bool) → Result PartnerAnswer Objection
judged answer covered on none =
    if not covered then Err LoadBelowTorque else if not on && not none then Err TorqueWhileOff else Ok answer

module _ (unit : CoupledUnit) (before : List PartnerAnswer) (line : List ℕ) where
  pub taken-none : answer_of line ≡ None → taken unit before line ≡ Err NoAnswer
  unfolding taken lawful_if_any
  taken-none none = ap (lawful_if_any unit before) none

  pub taken-judged : (answer : PartnerAnswer) (covered on none : Bool) → answer_of line ≡ Some answer → covers unit.setting.cal.rules.kt answer.told ≡ covered
      → (commanded_at unit.setting answer.drive (entries_by unit before)).on ≡ on → (answer.told.torque == 0) ≡ none
      → taken unit before line ≡ judged answer covered on none
  unfolding taken lawful_if_any lawful
  taken-judged answer covered on none is c o n = ap (lawful_if_any unit before) is ∙ (λ i. judged answer (c i) (o i) (n i))

  -- without torque it is the same whether the stages are on
  pub taken-still : (answer : PartnerAnswer) → answer_of line ≡ Some answer → covers unit.setting.cal.rules.kt answer.told ≡ true
      → (answer.told.torque == 0) ≡ true → taken unit before line ≡ Ok answer
  taken-still answer is c n = by_on (commanded_at unit.setting answer.drive (entries_by unit before)).on refl
    where
      by_on : (on : Bool) → (commanded_at unit.setting answer.drive (entries_by unit before)).on ≡ on → taken unit before line ≡ Ok answer
      by_on true o = taken-judged answer true true true is c o n
      by_on false o = taken-judged answer true false true is c o n

  -- a front of the line that is longer than any answer gives what the line gives
  pub taken-seen : (n : ℕ) → 46 < n → taken unit before (take n line) ≡ taken unit before line
  unfolding taken
  taken-seen n long = ap (lawful_if_any unit before) (answer_of-seen line n long)

-- ---- how a call ends with it ----

pub outcome-ok : (n : ℕ) (result : Result PartnerAnswer Objection) (answer : PartnerAnswer) → outcome_of n result ≡ Ok answer → result ≡ Ok answer
outcome-ok n (Ok other) answer is = let same : ◌≡◌ {A = Result PartnerAnswer Outcome} (Ok other) (Ok answer) = is in cc
outcome-ok n (Err why) answer is = absurd (let never : ◌≡◌ {A = Result PartnerAnswer Outcome} (Err (Refused (refusal_of n why))) (Ok answer) = is in cc)

pub outcome-err : (n : ℕ) (result : Result PartnerAnswer Objection) (end : Outcome) → outcome_of n result ≡ Err end → (why : Objection) × (result ≡ Err why) × (end ≡ Refused (refusal_of n why))
outcome-err n (Ok other) end is = absurd (let never : ◌≡◌ {A = Result PartnerAnswer Outcome} (Ok other) (Err end) = is in cc)
outcome-err n (Err why) end is = let same : ◌≡◌ {A = Result PartnerAnswer Outcome} (Err (Refused (refusal_of n why))) (Err end) = is in (why, refl, cc)

-- what comes of a line where it is refused, or gives an answer
pub refuses : (unit : CoupledUnit) (before : List PartnerAnswer) (line : List ℕ) (n : ℕ) (why : Objection) → n ≡ length before + 1 → taken unit before line ≡ Err why
    → ◌≡◌ {A = Result PartnerAnswer Outcome} (Err (Refused (refusal_of n why))) (outcome_of (length before + 1) (taken unit before line))
refuses unit before line n why is refused =
    ap (λ m. Err (Refused (refusal_of m why))) is ∙ sym (ap (outcome_of (length before + 1)) refused)

pub gives : (unit : CoupledUnit) (before : List PartnerAnswer) (line : List ℕ) (answer : PartnerAnswer) → taken unit before line ≡ Ok answer
    → ◌≡◌ {A = Result PartnerAnswer Outcome} (Ok answer) (outcome_of (length before + 1) (taken unit before line))
gives unit before line answer is = sym (ap (outcome_of (length before + 1)) is)

-- ---- an answer comes ----

module _ (unit : CoupledUnit) (before : List PartnerAnswer) (lines : Change ShownLines) (buffer : List ℕ) (came : Bool)
    (comes : LineComes (MOST_ANSWER_BYTES + 1) lines buffer (Ok came)) (is : came ≡ true) where
  from-line : (result : Result PartnerAnswer Objection) → taken unit before buffer ≡ result
      → (line : Line) × Come lines (line ∷ []) × (taken unit before line ≡ result) × ReadsWell lines
  from-line result gives =
      seen_line (taken unit before) (MOST_ANSWER_BYTES + 1) lines buffer buffer came result
      (λ line. taken-seen unit before line (MOST_ANSWER_BYTES + 1) (let long : 46 < 46 + 1 = omega arith in long)) comes is refl gives

  pub answer-comes : (answer : PartnerAnswer) → outcome_of (length before + 1) (taken unit before buffer) ≡ Ok answer → AnswerComes unit before lines (Ok (Some answer))
  answer-comes answer gives = from-line (Ok answer) (outcome-ok (length before + 1) (taken unit before buffer) answer gives)

  pub refusal-comes : (end : Outcome) (result : Result (Option PartnerAnswer) Outcome) → IsErrAnd result (λ o. o ≡ end)
      → outcome_of (length before + 1) (taken unit before buffer) ≡ Err end → AnswerComes unit before lines result
  refusal-comes end (Ok answer) ends gives = absurd ends
  refusal-comes end (Err o) ends gives =
      let refused = outcome-err (length before + 1) (taken unit before buffer) end gives in
      let line = from-line (Err refused.0) refused.1 in
      inl (line.0, refused.0, line.1, line.2, ends ∙ refused.2, line.3)
