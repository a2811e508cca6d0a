-- Calls that make stores, one after another, where they are done and where they end early.
use Rattle.std.proofs.Common.{◌≡◌, ◌∙◌, refl, sym, ap, subst, inl, inr, ℕ, zero, suc, ◌+◌, ◌-◌, ◌<◌, ◌≤◌, Bool, true, false, List, [], ◌∷◌, ◌++◌, length, take, drop, slice_index}
use Rattle.std.specs.Prelude.{Result, Ok, Err, IsErr, OnOk, OnErr}
use Rattle.std.proofs.lemmas.List.{append-nil, drop_more, drop_all}
use Rattle.std.proofs.Math.Path.{fun_ext}
use Rattle.std.proofs.lemmas.Bool.Decides.{eqb_tells}
use Rattle.std.proofs.lemmas.Result.{on_ok_weaker, on_err_weaker, IfOk-from_err}
use Rattle.eg_guard.specs.Memory.{ShownMemory, KeepsMemory}
use Rattle.eg_guard.proofs.KeepsLemmas.{keeps_then, keeps_done, keeps_refused, clash}
use Rattle.eg_level2.specs.declared.step.Step.{Step}
use Rattle.eg_level2.specs.Words.{word_at}
use Rattle.eg_level2.specs.Inner.Stores.{outside, Makes, RunMakes}
use Rattle.eg_level2.specs.Stores.{Store, store, put, both, both_where, both_from, after_stores, AreFirst}
use Rattle.eg_level2.proofs.StoreLemmas.{Mirror, both-mirror}

-- ---- some stores, with more behind them ----

take-nil : {A : Type 0} (n : ℕ) → (let none : List A = [] in take n none ≡ none)
take-nil zero = refl
take-nil (suc n) = refl

longer-take : (stores more : List Store) (count : ℕ) → (c : ℕ) × (take count stores ≡ take c (stores ++ more))
longer-take [] more count = (0, take-nil count)
longer-take (one ∷ rest) more zero = (0, refl)
longer-take (one ∷ rest) more (suc count) = let (c, e) = longer-take rest more count in (suc c, ap (λ l. one ∷ l) e)

pub longer : (stores more : List Store) (f h : ℕ → ℕ) → AreFirst stores f h → AreFirst (stores ++ more) f h
longer stores more f h first =
    let (c, e) = longer-take stores more first.count in
    record { count = c; made = first.made ∙ ap (λ (l : List Store). after_stores l f) e }

-- the words after both, and after all of the first and some of those behind them
after-both : (first rest : List Store) (f : ℕ → ℕ) → after_stores (first ++ rest) f ≡ after_stores rest (after_stores first f)
unfolding after_stores
after-both [] rest f = refl
after-both (one ∷ first) rest f = after-both first rest (put one.number one.value f)

behind : (first rest : List Store) (f g h : ℕ → ℕ) → g ≡ after_stores first f → AreFirst rest g h → AreFirst (first ++ rest) f h
unfolding after_stores
behind [] rest f g h e some = subst (λ word. AreFirst rest word h) e some
behind (one ∷ first) rest f g h e some =
    let more = behind first rest (put one.number one.value f) g h e some in
    record { count = suc more.count; made = more.made }

-- ---- calls ----

-- a call behind one that was done
pub in_turn : {T E U F : Type 0} {first rest : List Store} {a b d : ShownMemory} {x : T} {result : Result U F}
    → (let done : Result T E = Ok x in Makes first a b done) → Makes rest b d result → Makes (first ++ rest) a d result
in_turn {first = first} {rest = rest} {a = a} {b = b} {d = d} {x = x} {result = result} made next = record {
  stored = on_ok_weaker result (λ e. e ∙ ap (after_stores rest) made.stored ∙ sym (after-both first rest (word_at a.words))) next.stored;
  stopped = on_err_weaker result (λ some. behind first rest (word_at a.words) (word_at b.words) (word_at d.words) made.stored some) next.stopped;
  keeps = record {
    outside = next.keeps.outside ∙ made.keeps.outside;
    memory = keeps_then a b d x result made.keeps.memory next.keeps.memory;
    mirrored = λ mirrored. next.keeps.mirrored (made.keeps.mirrored mirrored);
  };
}

-- whatever the call answers that ends with it early
pub early : {T E U F : Type 0} {first : List Store} {a b : ShownMemory} {e : E} (rest : List Store) (result : Result U F) → IsErr result
    → (let refused : Result T E = Err e in Makes first a b refused) → Makes (first ++ rest) a b result
early rest (Ok x) is made = absurd (clash is)
early {first = first} {a = a} {b = b} {e = e} rest (Err f) is made = record {
  stored = tt;
  stopped = longer first rest (word_at a.words) (word_at b.words) made.stopped;
  keeps = record {
    outside = made.keeps.outside;
    memory = keeps_refused a b e (Err f) is made.keeps.memory;
    mirrored = λ mirrored. tt;
  };
}

pub early_last : {T E U F : Type 0} {stores : List Store} {a b : ShownMemory} {e : E} (result : Result U F) → IsErr result
    → (let refused : Result T E = Err e in Makes stores a b refused) → Makes stores a b result
early_last {stores = stores} {a = a} {b = b} result is made = subst (λ (l : List Store). Makes l a b result) (append-nil stores) (early [] result is made)

-- a call that is done makes the same, whatever it answers
pub done : {T E U F : Type 0} {stores : List Store} {a b : ShownMemory} {x : T} {y : U} → (let done : Result T E = Ok x in Makes stores a b done)
    → (let done : Result U F = Ok y in Makes stores a b done)
done {a = a} {b = b} {x = x} {y = y} made = record {
  stored = made.stored;
  stopped = tt;
  keeps = record {
    outside = made.keeps.outside;
    memory = keeps_done a b x y made.keeps.memory;
    mirrored = made.keeps.mirrored;
  };
}

-- a run that ended early
pub ended : {E : Type 0} {stores : List Store} {step : Step} {a b : ShownMemory} (result : Result Step E) → IsErr result → Makes stores a b result → RunMakes stores step a b result
ended {step = step} result is made = record { makes = made; answers = IfOk-from_err result (λ answer. answer ≡ step) is }

-- no store
pub none : {T E : Type 0} {a : ShownMemory} {x : T} → (let done : Result T E = Ok x in Makes [] a a done)
unfolding after_stores
none = record {
  stored = refl;
  stopped = tt;
  keeps = record { outside = refl; memory = record { sure = λ sure. refl; stays_sure = refl; are_words = λ are. are }; mirrored = λ are. are };
}

pub none_where : {T E : Type 0} {test : Bool} (number value : ℕ) {a : ShownMemory} {x : T} → test ≡ false
    → (let done : Result T E = Ok x in Makes (both_where test number value) a a done)
unfolding both_where
none_where number value e = rw e none

pub all_where : {T E : Type 0} {test : Bool} (number value : ℕ) {a b : ShownMemory} {result : Result T E} → test ≡ true → Makes (both number value) a b result
    → Makes (both_where test number value) a b result
unfolding both_where
all_where number value e made = rw e made

-- ---- a word and its complement ----

-- where they stand already
put-same : (word : ℕ → ℕ) (number value : ℕ) → word number ≡ value → put number value word ≡ word
unfolding put
put-same word number value e = fun_ext (λ k. elim (eqb_tells k number) [
  | inl same ↦ rw same.0 (sym e ∙ ap word (sym same.1))
  | inr apart ↦ rw apart.0 refl
])

pub kept_both : {T E : Type 0} (number value : ℕ) {a : ShownMemory} {x : T} → word_at a.words number ≡ value → word_at a.words (number + 16) ≡ 65535 - value
    → (let done : Result T E = Ok x in Makes (both number value) a a done)
unfolding both store after_stores
kept_both {T = T} {E = E} number value {a = a} {x = x} same other =
    let nothing : (let done : Result T E = Ok x in Makes [] a a done) = none in
    record {
      stored = sym (ap (put (number + 16) (65535 - value)) (put-same (word_at a.words) number value same) ∙ put-same (word_at a.words) (number + 16) (65535 - value) other);
      stopped = tt;
      keeps = nothing.keeps;
    }

-- where memory ran out at the word
pub put_refused : {T E U F : Type 0} (number value : ℕ) {a b : ShownMemory} {e : E} (result : Result U F) → IsErr result → word_at b.words ≡ word_at a.words
    → outside b.words ≡ outside a.words → (let refused : Result T E = Err e in KeepsMemory a b refused) → Makes (both number value) a b result
unfolding after_stores
put_refused number value (Ok x) is same left keeps = absurd (clash is)
put_refused number value {a = a} {b = b} {e = e} (Err f) is same left keeps = record {
  stored = tt;
  stopped = record { count = 0; made = same };
  keeps = record { outside = left; memory = keeps_refused a b e (Err f) is keeps; mirrored = λ mirrored. tt };
}

-- at the complement, or nowhere
pub put_both : {T E U F : Type 0} (number value : ℕ) {a b d : ShownMemory} {x : T} (result : Result U F) → number < 16 → value < 65536
    → word_at b.words ≡ put number value (word_at a.words) → outside b.words ≡ outside a.words → (let done : Result T E = Ok x in KeepsMemory a b done)
    → OnOk result (word_at d.words ≡ put (number + 16) (65535 - value) (word_at b.words)) → OnErr result (word_at d.words ≡ word_at b.words)
    → outside d.words ≡ outside b.words → KeepsMemory b d result → Makes (both number value) a d result
unfolding both store after_stores
put_both number value {a = a} {b = b} {d = d} {x = x} result within fits word left keeps ok err left_2 keeps_2 = record {
  stored = on_ok_weaker result stored ok;
  stopped = on_err_weaker result (λ same. record { count = 1; made = same ∙ word }) err;
  keeps = record {
    outside = left_2 ∙ left;
    memory = keeps_then a b d x result keeps keeps_2;
    mirrored = λ are. on_ok_weaker result (λ e. record { sums = subst Mirror (sym (stored e)) (both-mirror (word_at a.words) number value within fits are.sums) }) ok;
  };
}
  where
    stored : word_at d.words ≡ put (number + 16) (65535 - value) (word_at b.words) → word_at d.words ≡ put (number + 16) (65535 - value) (put number value (word_at a.words))
    stored e = e ∙ ap (put (number + 16) (65535 - value)) word

-- ---- all words, in the order of their numbers ----

next_from : (values : List ℕ) (n : ℕ) → n < length values
    → both_from n (drop n values) ≡ both n (slice_index values n) ++ both_from (n + 1) (drop (n + 1) values)
unfolding both_from
next_from values n within = ap (both_from n) (drop_more values n 0 within)

pub goes_from : {T E U F : Type 0} {a b d : ShownMemory} {x : T} (result : Result U F) (values : List ℕ) (n value : ℕ) → n < length values → value ≡ slice_index values n
    → (let done : Result T E = Ok x in Makes (both n value) a b done) → Makes (both_from (n + 1) (drop (n + 1) values)) b d result
    → Makes (both_from n (drop n values)) a d result
goes_from {a = a} {d = d} result values n value within e made rest =
    subst (λ (l : List Store). Makes l a d result) (ap (λ v. both n v ++ both_from (n + 1) (drop (n + 1) values)) e ∙ sym (next_from values n within)) (in_turn made rest)

pub stops_from : {T E U F : Type 0} {a b : ShownMemory} {f : E} (result : Result U F) (values : List ℕ) (n value : ℕ) → IsErr result → n < length values
    → value ≡ slice_index values n → (let refused : Result T E = Err f in Makes (both n value) a b refused) → Makes (both_from n (drop n values)) a b result
stops_from {a = a} {b = b} result values n value is within e made =
    subst (λ (l : List Store). Makes l a b result) (ap (λ v. both n v ++ both_from (n + 1) (drop (n + 1) values)) e ∙ sym (next_from values n within))
    (early (both_from (n + 1) (drop (n + 1) values)) result is made)

pub ends_from : {T E : Type 0} {a : ShownMemory} {x : T} (values : List ℕ) (n : ℕ) → length values ≤ n → (let done : Result T E = Ok x in Makes (both_from n (drop n values)) a a done)
unfolding both_from
ends_from {T = T} {E = E} {a = a} {x = x} values n past =
    subst (λ (l : List ℕ). (let done : Result T E = Ok x in Makes (both_from n l) a a done)) (sym (drop_all n values past)) none
