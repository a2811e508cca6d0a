-- What a read of csv's reader takes of the records that are left, and that the records of a text are what its reads give.
use Rattle.std.proofs.Common.{◌≡◌, ◌∙◌, sym, ap, refl, ℕ, zero, suc, ◌+◌, ◌<◌, ◌≤◌, List, [], ◌∷◌, ◌++◌, length, Bool, true, false, arith, Option, Some, None, add-one, inl, Bor, inr}
use Rattle.std.specs.Prelude.{Result, Ok, Err, IfOk, OnOk, IsErrAnd, MatchResult}
use Rattle.std.specs.Bool.{MatchBool}
use Rattle.csv.specs.Machine.{next_record, step, is_end, ends_at_end, Read, fields_after}
use Rattle.csv.specs.Reading.{records_from, records_next, default_config, pending_of, Ready, ReadRecord, ReadsNext, NextIs, took_first, is_flexible, reader_trim}
use Rattle.csv.specs.declared.reader.Reader.{Reader}
use Rattle.csv.specs.declared.parser.State.{State}
use Rattle.csv.specs.declared.parser.State.TheVariants as st
use Rattle.csv.specs.declared.parser.Action.{Action}
use Rattle.csv.specs.declared.reader.Trim.TheVariants as trim
use Rattle.std.proofs.lemmas.Bool.{cases_Bool, true≢false}
use Rattle.std.proofs.lemmas.Option.{cond_some, same_Some}
use Rattle.eg_input.specs.Records.{Record}
use Rattle.eg_input.specs.Inner.Unread.{records_after, HasUnread}

-- where a byte ends a record, the state is between two records
abbrev EndsBetween : State × Action → Type 0
EndsBetween r = is_end r.1 ≡ true → ends_at_end r.0 ≡ false

step-between : (s : State) (c : ℕ) → EndsBetween (step default_config s c)
step-between st.StartRecord c = grind arith
step-between st.StartField c = grind arith
step-between st.InField c = grind arith
step-between st.InQuoted c = grind arith
step-between st.InEscape c = λ e. cc
step-between st.AfterQuote c = grind arith
step-between st.InComment c = grind arith
step-between st.AfterCr c = grind arith

-- a record that is read from a text takes a byte of it, and leaves the state between two records
record TakesRecord (s : State) (text : List ℕ) (p : Read) : Type 0 where
  no_longer : length p.2 ≤ length text
  between : ends_at_end p.1 ≡ false
  shorter : ends_at_end s ≡ false → length p.2 < length text

takes_record : (s : State) (fields : List (List ℕ)) (field text : List ℕ) (p : Read) → next_record default_config s fields field text ≡ Some p → TakesRecord s text p
unfolding next_record
takes_record s fields field [] p e =
    let is = cond_some (ends_at_end s) (fields ++ (field ∷ []), st.StartRecord, []) p e in
    rw (← is.1) (record { no_longer = omega arith; between = refl; shorter = λ no_end. absurd (true≢false (sym is.0 ∙ no_end)) })
takes_record s fields field (c ∷ rest) p e = elim (cases_Bool (is_end (step default_config s c).1)) [
  | inl is ↦ (let same = same_Some (fields_after (step default_config s c).1 fields field, (step default_config s c).0, rest) p (rw is at e) in
      rw (← same) (record { no_longer = omega arith; between = step-between s c is; shorter = λ _. omega arith }))
  | inr is ↦ (let t = takes_record (step default_config s c).0 _ _ rest p (rw is at e) in
      let l = t.no_longer in record { no_longer = omega arith; between = t.between; shorter = λ _. omega arith })
]

-- once there are more turns than bytes, how many there are makes no difference
records_from-turns : (n m : ℕ) (s : State) (text : List ℕ) → ends_at_end s ≡ false → length text < n → length text < m
    → records_from default_config n s text ≡ records_from default_config m s text
unfolding records_from
records_from-turns zero m s text b h k = absurd (omega arith)
records_from-turns (suc n) zero s text b h k = absurd (omega arith)
records_from-turns (suc n) (suc m) s text b h k = at_next (records_from-turns n m) (next_record default_config s [] [] text) refl
  where
    at_next : ((s : State) (text : List ℕ) → ends_at_end s ≡ false → length text < n → length text < m
        → records_from default_config n s text ≡ records_from default_config m s text)
        → (o : Option Read) → next_record default_config s [] [] text ≡ o → records_next (records_from default_config n) o ≡ records_next (records_from default_config m) o
    at_next again None e = refl
    at_next again (Some p) e =
        let t = takes_record s [] [] text p e in
        let l = t.shorter b in
        ap (λ (rs : List Record). p.0 ∷ rs) (again p.1 p.2 t.between (omega arith) (omega arith))

-- a record that is read stands first among the records
pub records_after-some : (s : State) (text : List ℕ) (p : Read) → ends_at_end s ≡ false → next_record default_config s [] [] text ≡ Some p
    → records_after s text ≡ p.0 ∷ records_after p.1 p.2
unfolding records_from
records_after-some s text p b e =
    let t = takes_record s [] [] text p e in
    let l = t.shorter b in
    rw (add-one (length text), e) (ap (λ (rs : List Record). p.0 ∷ rs) (records_from-turns (length text) (length p.2 + 1) p.1 p.2 t.between (omega arith) (omega arith)))

-- where none is read there are no records
pub records_after-none : (s : State) (text : List ℕ) → next_record default_config s [] [] text ≡ None → records_after s text ≡ []
unfolding records_from
records_after-none s text e = rw (add-one (length text), e) refl

-- what a read that found a record shows, at bytes that are known
read_next : (s : State) (text : List ℕ) (o : Option Read) (after : Option (List ℕ)) (fields : List (List ℕ)) (s2 : State)
    → o ≡ next_record default_config s [] [] text → ends_at_end s ≡ false
    → ReadsNext default_config s (Some text) after true fields s2
    → (rest : List ℕ) × (after ≡ Some rest) × (ends_at_end s2 ≡ false) × (records_after s text ≡ fields ∷ records_after s2 rest)
read_next s text o None fields s2 eo b h = absurd h
read_next s text None (Some rest) fields s2 eo b h = let n = rw (← eo) at h in absurd cc
read_next s text (Some p) (Some rest) fields s2 eo b h =
    let n = rw (← eo) at h in
    let t = takes_record s [] [] text p (sym eo) in
    (rest, refl, rw n.2 t.between, records_after-some s text p b (sym eo) ∙ rw (n.1, n.2, n.3) refl)

-- what a read that found none shows
read_end : (s : State) (text : List ℕ) (after : Option (List ℕ)) (fields : List (List ℕ)) (s2 : State)
    → ReadsNext default_config s (Some text) after false fields s2 → records_after s text ≡ []
read_end s text None fields s2 h = absurd h
read_end s text (Some rest) fields s2 h = records_after-none s text (none (next_record default_config s [] [] text) h)
  where
    none : (o : Option Read) → NextIs o false fields s2 rest → o ≡ None
    none None n = refl
    none (Some p) n = absurd cc

abbrev in_memory : Bor (List ℕ) → Option (List ℕ)
in_memory s = Some s.now

-- a record that was read stood first among those that were left
unread-more : (old new : Reader (Bor (List ℕ))) (fields : List (List ℕ)) (left : List Record) → HasUnread old left
    → ReadRecord in_memory old new true fields → took_first new ≡ true → is_flexible new ≡ is_flexible old
    → (rest : List Record) × (left ≡ fields ∷ rest) × HasUnread new rest
unread-more old new fields left h r first kept =
    let next = read_next old.state h.text _ (pending_of (in_memory new.rdr) new) fields new.state refl h.between (rw (h.config, h.source) at r.0) in (
      records_after new.state next.0,
      sym h.are_left ∙ next.3,
      record {
        config = r.2 ∙ h.config;
        trim = r.3 ∙ h.trim;
        flexible = kept ∙ h.flexible;
        ready = inl first;
        between = next.2;
        text = next.0;
        source = rw r.1 next.1;
        are_left = refl;
      },
    )

-- where none was read none was left
unread-none : (old new : Reader (Bor (List ℕ))) (fields : List (List ℕ)) (left : List Record) → HasUnread old left
    → ReadRecord in_memory old new false fields → left ≡ []
unread-none old new fields left h r = sym h.are_left ∙ read_end old.state h.text (pending_of (in_memory new.rdr) new) fields new.state (rw (h.config, h.source) at r.0)

-- what one read takes of the records that were left
pub unread-read : (old new : Reader (Bor (List ℕ))) (found : Bool) (fields : List (List ℕ))
    → (reader_trim old ≡ trim.None → Ready old → ReadRecord in_memory old new found fields)
    → (reader_trim old ≡ trim.None → took_first new ≡ true) → is_flexible new ≡ is_flexible old
    → (left : List Record) → HasUnread old left → MatchBool found ((rest : List Record) × (left ≡ fields ∷ rest) × HasUnread new rest) (left ≡ [])
unread-read old new true fields reads first kept left h = unread-more old new fields left h (reads h.trim h.ready) (first h.trim) kept
unread-read old new false fields reads first kept left h = unread-none old new fields left h (reads h.trim h.ready)

-- what one read takes, by the read's answer, its error taken for another
pub unread-answer : {E D : Type 0} (old new : Reader (Bor (List ℕ))) (fields : List (List ℕ)) (before : Result Bool E) (after : Result Bool D) (Cause : E → D → Type 0)
    → MatchResult before (λ found. after ≡ Ok found) (λ e. IsErrAnd after (Cause e))
    → IfOk before (λ found. reader_trim old ≡ trim.None → Ready old → ReadRecord in_memory old new found fields)
    → (reader_trim old ≡ trim.None → OnOk before (took_first new ≡ true)) → OnOk before (is_flexible new ≡ is_flexible old)
    → IfOk after (λ found. (left : List Record) → HasUnread old left → MatchBool found ((rest : List Record) × (left ≡ fields ∷ rest) × HasUnread new rest) (left ≡ []))
unread-answer old new fields (Ok found) after Cause same reads first kept = rw same (unread-read old new found fields reads first kept)
unread-answer old new fields (Err e) (Ok found) Cause never reads first kept = absurd never
unread-answer old new fields (Err e) (Err d) Cause cause reads first kept = tt
