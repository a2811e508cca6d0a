-- The reaction under several faults at once.
use Rattle.std.proofs.Common.{List, [], ◌∷◌, ◌++◌, All, arith}
use Rattle.std.proofs.lemmas.List.Elements.{All-head, All-tail}
use Rattle.eg_fault.specs.Classes.{IsRegular}
use Rattle.eg_model.specs.History.{Tick}
use Rattle.eg_model.specs.Seeing.{SeesExcess}
use Rattle.eg_laws.specs.Seeing.{SeenExcessIsCut, SeenExcessIsCutInTime}
use Rattle.eg_model.proofs.TickLemmas.{Each}
use Rattle.eg_model.proofs.ReactionLaw.{seen_cut, seen_cut_by_answers}

each : (P : Tick → Type 0) (h : List Tick) → All P h → Each P h
unfolding Each
each P [] all = tt
each P (x ∷ h) all = (All-head P x h all, each P h (All-tail P x h all))

pub seen_excess_is_cut : SeenExcessIsCut
seen_excess_is_cut s accepted h seen more x obeys =
    seen_cut s accepted h (each (λ x. SeesExcess x.effects) h seen.sees) seen.proper seen.confirmed more x obeys

pub seen_excess_is_cut_in_time : SeenExcessIsCutInTime
seen_excess_is_cut_in_time s accepted h seen more x regular long obeys =
    seen_cut_by_answers s accepted h (each (λ x. SeesExcess x.effects) h seen.sees) seen.proper seen.confirmed more x
    (each (λ y. IsRegular y.effects) (more ++ h) regular) (omega (arith, long)) obeys
