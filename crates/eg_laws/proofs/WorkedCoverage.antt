-- The tick at which wrong answers are found in a worked history, computed from the definitions.
use Rattle.std.proofs.Common.{◌≡◌, true, false, [], ◌∷◌, ◌++◌, map, replicate, reverse, Some, refl}
use Rattle.eg_answer.specs.Times.{feeds_to_confirm, periods_to_confirm}
use Rattle.eg_answer.specs.Periods.{place_of, period_of}
use Rattle.eg_values.specs.Reference.{reference_parts}
use Rattle.eg_model.specs.Rows.{rows_of}
use Rattle.eg_model.proofs.WholeModel.{whole_model}
use Rattle.eg_laws.specs.LeastReaction.{last_excess, closed_setting}
use Rattle.eg_laws.specs.Examples.{latest_cut}
use Rattle.eg_laws.specs.Paths.{trips}
use Rattle.eg_laws.specs.Coverage.{spoils_at, silent_from, wrong_from}

pub latest_answers : map (λ m. m.found.answers) (reverse latest_cut) ≡ replicate 49 false ++ true ∷ false ∷ []
unfolding whole_model last_excess feeds_to_confirm periods_to_confirm
latest_answers = refl

pub latest_silent : silent_from (closed_setting reference_parts).fault (rows_of latest_cut) ≡ Some 16
unfolding whole_model last_excess feeds_to_confirm periods_to_confirm silent_from spoils_at trips
latest_silent = refl

pub latest_wrong : wrong_from reference_parts.times 16 ≡ 2
unfolding wrong_from place_of period_of
latest_wrong = refl

pub latest_confirm : feeds_to_confirm reference_parts.times.weights ≡ 3
unfolding feeds_to_confirm
latest_confirm = refl
