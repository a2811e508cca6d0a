-- What a chain of calls keeps of a guarded memory, where it is done and where it ends early.
use Rattle.std.proofs.Common.{◌≡◌, ◌∙◌, refl, sym, subst, IsTrue, true, false}
use Rattle.std.specs.Prelude.{Result, Ok, Err, IsErr}
use Rattle.eg_guard.specs.Memory.{ShownMemory, KeepsMemory}

-- a call behind one that was done
pub keeps_then : {T E U F : Type 0} (a b d : ShownMemory) (x : T) (result : Result U F) → (let done : Result T E = Ok x in KeepsMemory a b done) → KeepsMemory b d result
    → KeepsMemory a d result
keeps_then a b d x result first second = record {
  sure = λ sure. second.sure (subst IsTrue (sym first.stays_sure) sure);
  stays_sure = second.stays_sure ∙ first.stays_sure;
  are_words = λ words. second.are_words (first.are_words words);
}

-- whatever else the call answers that is done
pub keeps_done : {T E U F : Type 0} (a b : ShownMemory) (x : T) (y : U) → (let done : Result T E = Ok x in KeepsMemory a b done)
    → (let done : Result U F = Ok y in KeepsMemory a b done)
keeps_done a b x y first = record {
  sure = λ sure. refl;
  stays_sure = first.stays_sure;
  are_words = first.are_words;
}

pub clash : false ≡ true → ⊥
clash is = cc

-- whatever the call answers that ends early
pub keeps_refused : {T E U F : Type 0} (a b : ShownMemory) (e : E) (result : Result U F) → IsErr result → (let refused : Result T E = Err e in KeepsMemory a b refused)
    → KeepsMemory a b result
keeps_refused a b e (Ok x) is first = absurd (clash is)
keeps_refused a b e (Err f) is first = record {
  sure = λ sure. absurd (clash (first.sure sure));
  stays_sure = first.stays_sure;
  are_words = first.are_words;
}
