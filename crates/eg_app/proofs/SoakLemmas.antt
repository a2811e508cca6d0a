-- The text of a summary, and the headline for runs that are drawn.
use Rattle.std.proofs.Common.{◌≡◌, refl, subst, ℕ, zero, suc, All}
use Rattle.std.specs.List.{concat}
use Rattle.std.proofs.lemmas.List.Elements.{All-cons, All-nil}
use Rattle.eg_values.specs.Calibration.{CalibrationParts, IsAccepted}
use Rattle.eg_values.specs.Reference.{reference_parts}
use Rattle.eg_draw.specs.Runs.{drawn_run, state_after}
use Rattle.eg_draw.proofs.ProperLemmas.{drawn_proper}
use Rattle.eg_soak.specs.Soak.{run_drawn, drawn_runs}
use Rattle.eg_soak.specs.Texts.{lines_of, numbers, soak_text}
use Rattle.eg_soak.specs.declared.summary.SoakSummary.{SoakSummary}
use Rattle.eg_soak.proofs.FactsLemmas.{any_fault}
use Rattle.eg_play.specs.Headline.{KeepsHeadline}
use Rattle.eg_play.proofs.HeadlineLemmas.{headline}

pub text_of : (s : SoakSummary) → concat (lines_of (numbers s)) ≡ soak_text s
unfolding soak_text
text_of s = refl

keep_headline : IsAccepted reference_parts → (count seed : ℕ) → All KeepsHeadline (drawn_runs count seed)
unfolding drawn_runs
keep_headline accepted zero x = All-nil KeepsHeadline
keep_headline accepted (suc count) x =
    let run = run_drawn (drawn_run x) in
    All-cons KeepsHeadline run (drawn_runs count (state_after x))
    (headline run (record { accepted = accepted; drive = (drawn_proper x).within })
    (any_fault (drawn_run x).fault (drawn_proper x).valid))
    (keep_headline accepted count (state_after x))

pub drawn_keep_headline : (cal : CalibrationParts) → cal ≡ reference_parts → IsAccepted cal → (count seed : ℕ) → All KeepsHeadline (drawn_runs count seed)
drawn_keep_headline cal is accepted = keep_headline (subst IsAccepted is accepted)
