-- What a stream took of bytes, one write after another.
use Rattle.std.proofs.Common.{◌≡◌, ◌∙◌, sym, ap, subst, ℕ, ◌+◌, List, [], ◌++◌, take, drop, Option, None, Some, append_assoc, append-nil, take-add, take_all, length-drop, length, ◌-◌, arith, Bool, true, false, cond, refl}
use Rattle.std.specs.Prelude.{IsTrue, IsSome, Result, Ok, Err, OnOk, OnErr, option_map}
use Rattle.std.proofs.lemmas.List.{take-append-drop}
use Rattle.std.specs.Io.KnownBytes.{Appends, Keeps}
use Rattle.eg_base.specs.Outside.{Appends as ShowsAppended, AppendsPrefix}
use Rattle.eg_base.specs.Streams.{StreamState, TakesPrefix, shown_by}

appends-more : (a b c : Option (List ℕ)) (front more : List ℕ) → Appends a b front → Appends b c more → Appends a c (front ++ more)
appends-more None b c front more p q = tt
appends-more (Some x) None c front more p q = absurd p
appends-more (Some x) (Some y) None front more p q = absurd q
appends-more (Some x) (Some y) (Some z) front more p q = q ∙ ap (λ bytes. bytes ++ more) p ∙ append_assoc x front more

-- a front of the bytes, and then the next of those behind it
pub next-taken : (a b c : Option (List ℕ)) (bytes : List ℕ) (i count : ℕ) → Appends a b (take i bytes) → Appends b c (take count (take (length bytes - i) (drop i bytes)))
    → Appends a c (take (i + count) bytes)
next-taken a b c bytes i count p q =
    let behind : take (length bytes - i) (drop i bytes) ≡ drop i bytes = take_all (length bytes - i) (drop i bytes) (let e = length-drop i bytes in omega arith) in
    let next : Appends b c (take count (drop i bytes)) = subst (λ rest. Appends b c (take count rest)) behind q in
    subst (Appends a c) (sym (take-add i count bytes)) (appends-more a b c _ _ p next)

-- a front of the bytes, and then nothing
pub none-taken : (a b c : Option (List ℕ)) (bytes : List ℕ) (i : ℕ) → Appends a b (take i bytes) → Appends b c [] → TakesPrefix a c bytes
none-taken a b c bytes i p q =
    (take i bytes, drop i bytes, sym (take-append-drop i bytes), subst (Appends a c) (append-nil (take i bytes)) (appends-more a b c _ _ p q))

-- a front of the bytes
pub front-taken : (a b : Option (List ℕ)) (bytes : List ℕ) (i : ℕ) → Appends a b (take i bytes) → TakesPrefix a b bytes
front-taken a b bytes i p = (take i bytes, drop i bytes, sym (take-append-drop i bytes), p)

-- all of the bytes, and then nothing but a refusal
pub all-kept : (a b c : Option (List ℕ)) (bytes : List ℕ) → Appends a b bytes → Keeps b c → TakesPrefix a c bytes
all-kept None b c bytes p q = (bytes, [], sym (append-nil bytes), tt)
all-kept (Some x) None c bytes p q = absurd p
all-kept (Some x) (Some y) None bytes p q = absurd q
all-kept (Some x) (Some y) (Some z) bytes p q = (bytes, [], sym (append-nil bytes), q ∙ p)

pub ruleset taken = (front-taken, all-kept)

-- ---- what is told of a stream ----

told-more : (told now : Bool) (a b : Option (List ℕ)) (bytes : List ℕ) → now ≡ told → (IsTrue told → IsSome a) → Appends a b bytes
    → cond now b None ≡ option_map (λ old. old ++ bytes) (cond told a None)
told-more true true None b bytes same known grew = absurd (let clash : false ≡ true = known refl in cc)
told-more true true (Some x) None bytes same known grew = absurd grew
told-more true true (Some x) (Some y) bytes same known grew = ap Some grew
told-more false false a b bytes same known grew = refl
told-more true false a b bytes same known grew = absurd cc
told-more false true a b bytes same known grew = absurd cc

-- all of the bytes were appended
pub told-whole : {W T E : Type 0} (contents : W → Option (List ℕ)) (result : Result T E) (old new : StreamState W) (bytes : List ℕ)
    → new.is_told ≡ old.is_told → (IsTrue old.is_told → IsSome (contents old.stream)) → OnOk result (Appends (contents old.stream) (contents new.stream) bytes)
    → OnOk result (ShowsAppended (shown_by contents old) (shown_by contents new) bytes)
told-whole contents (Ok x) old new bytes same known grew = told-more old.is_told new.is_told _ _ bytes same known grew
told-whole contents (Err e) old new bytes same known grew = tt

-- a front of the bytes was appended
pub told-front : {W T E : Type 0} (contents : W → Option (List ℕ)) (result : Result T E) (old new : StreamState W) (bytes : List ℕ)
    → new.is_told ≡ old.is_told → (IsTrue old.is_told → IsSome (contents old.stream)) → OnErr result (TakesPrefix (contents old.stream) (contents new.stream) bytes)
    → OnErr result (AppendsPrefix (shown_by contents old) (shown_by contents new) bytes)
told-front contents (Ok x) old new bytes same known grew = tt
told-front contents (Err e) old new bytes same known (front, rest, split, grew) =
    (front, rest, split, told-more old.is_told new.is_told _ _ front same known grew)

pub ruleset told = (told-whole, told-front)
