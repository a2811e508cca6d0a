-- csv's reader on a line of numbers.
use Rattle.std.proofs.Common.{◌≡◌, ◌∙◌, sym, ap, refl, subst, ℕ, ◌+◌, ◌≤◌, List, [], ◌∷◌, ◌++◌, length, Bool, true, false, arith, Option, Some, append-nil, append_assoc, inl, inr, ◌⊎◌}
use Rattle.std.specs.Prelude.{◌==◌}
use Rattle.std.specs.Char.{is_ascii_digit}
use Rattle.std.specs.List.{list_all}
use Rattle.std.proofs.lemmas.Bool.Decides.{nat_tests}
use Rattle.csv.specs.Machine.{next_record}
use Rattle.std.proofs.Common.{Bor, take, drop, nat_eq}
use Rattle.std.specs.Prelude.{codes}
use Rattle.std.specs.Cmp.Lexicographic.{pointwise}
use Rattle.std.specs.Str.{bytes_eq}
use Rattle.std.proofs.lemmas.Slice.Eq.{bytes_eq-Decides}
use Rattle.std.proofs.lemmas.List.{take-append-drop}
use Rattle.csv.specs.Records.{field_at}
use Rattle.csv.specs.Reading.{default_config, strip_bom}
use Rattle.std.proofs.lemmas.Bool.{cases_Bool, and_parts}
use Rattle.std.proofs.lemmas.Option.{cond_some}
use Rattle.eg_num.specs.Drive.{DriveRow, driven}
use Rattle.csv.specs.declared.parser.State.{State}
use Rattle.csv.specs.declared.parser.State.TheVariants as st
use Rattle.std.specs.declared.vec.Vec.{Vec}
use Rattle.std.specs.declared.alloc.Global.{Global}
use Rattle.std.specs.Prelude.{Result}
use Rattle.eg_input.specs.Records.{Record, RowRule, records_of, is_same_record}
use Rattle.eg_input.specs.Rows.{IsRead, is_header, rows_below, file_rows}
use Rattle.eg_input.specs.declared.fault.TraceFault.{TraceFault}
use Rattle.eg_input.specs.Fields.{number_of, number_at, truth_of, truth_at}
use Rattle.eg_input.specs.DriveTrace.{drive_from, drive_at, drive_of, trace_headers}
use Rattle.eg_input.specs.CheckFile.{check_row_of, check_header}
use Rattle.eg_input.specs.Inner.Plain.{BeginsWithField, BeginsWithNumber, BeginsWithTruth, BeginsWithDrive, BeginsWithRow, BeginsWithHeader, records_below}
use Rattle.eg_input.proofs.UnreadLemmas.{records_after-some, records_after-none}

-- a digit is no mark of the format
record NoMark (b : ℕ) : Type 0 where
  comma : (b == 44) ≡ false
  quote : (b == 34) ≡ false
  return : (b == 13) ≡ false
  feed : (b == 10) ≡ false

digit-no_mark : (b : ℕ) → is_ascii_digit b ≡ true → NoMark b
digit-no_mark b e = record {
  comma = grind (arith, nat_tests);
  quote = grind (arith, nat_tests);
  return = grind (arith, nat_tests);
  feed = grind (arith, nat_tests);
}

-- digits join the field at hand
digits-run : (fields : Record) (field x tail : List ℕ) → list_all is_ascii_digit x ≡ true
    → next_record default_config st.InField fields field (x ++ tail) ≡ next_record default_config st.InField fields (field ++ x) tail
unfolding next_record
digits-run fields field [] tail e = rw (append-nil field) refl
digits-run fields field (b ∷ rest) tail e =
    let parts = and_parts (is_ascii_digit b) (list_all is_ascii_digit rest) e in
    let n = digit-no_mark b parts.0 in
    rw (n.comma, n.return, n.feed) (digits-run fields (field ++ (b ∷ [])) rest tail parts.1
    ∙ ap (λ (f : List ℕ). next_record default_config st.InField fields f tail) (append_assoc field (b ∷ []) rest))

-- where a field begins
abbrev pub IsStart : State → Type 0
IsStart s = (s ≡ st.StartRecord) ⊎ (s ≡ st.StartField)

-- the first digit of a field does there what it does in a field
digit-starts : (s : State) → IsStart s → (fields : Record) (b : ℕ) (tail : List ℕ) → NoMark b
    → next_record default_config s fields [] (b ∷ tail) ≡ next_record default_config st.InField fields [] (b ∷ tail)
unfolding next_record
digit-starts s (inl is) fields b tail n = rw (is, n.return, n.feed, n.quote) refl
digit-starts s (inr is) fields b tail n = rw (is, n.quote) refl

-- a numeral from where a field begins
numeral-run : (s : State) → IsStart s → (fields : Record) (x tail : List ℕ) → 1 ≤ length x → list_all is_ascii_digit x ≡ true
    → next_record default_config s fields [] (x ++ tail) ≡ next_record default_config st.InField fields x tail
numeral-run s start fields [] tail some e = absurd (omega arith)
numeral-run s start fields (b ∷ rest) tail some e =
    let n = digit-no_mark b (and_parts (is_ascii_digit b) (list_all is_ascii_digit rest) e).0 in
    digit-starts s start fields b (rest ++ tail) n ∙ digits-run fields [] (b ∷ rest) tail e

-- a field that is read as a value is one digit or more
abbrev pub OfDigits : {X : Type 0} → (List ℕ → Option X) → Type 0
OfDigits {X} value_of = (field : List ℕ) (value : X) → value_of field ≡ Some value → (1 ≤ length field) × (list_all is_ascii_digit field ≡ true)

pub number_of-digits : (most : ℕ) → OfDigits (number_of most)
unfolding number_of
number_of-digits most digits n e = (grind (arith, nat_tests), grind arith)

pub truth_of-digits : OfDigits truth_of
unfolding truth_of
truth_of-digits field value e = elim (cases_Bool (bytes_eq field (codes "0"))) [
  | inl is ↦ rw ((bytes_eq-Decides field (codes "0")).0 is) (omega arith, refl)
  | inr other ↦ (let is = cond_some (bytes_eq field (codes "1")) true value (rw other at e) in
      rw ((bytes_eq-Decides field (codes "1")).0 is.0) (omega arith, refl))
]

-- digits and a comma are a field
pub field-comma : {X : Type 0} {value_of : List ℕ → Option X} → OfDigits value_of → (s : State) → IsStart s → (fields : Record) (text : List ℕ) (value : X) (rest : List ℕ)
    → (b : BeginsWithField value_of 44 text value rest)
    → next_record default_config s fields [] text ≡ next_record default_config st.StartField (fields ++ b.field ∷ []) [] rest
unfolding next_record
field-comma digits s start fields text value rest b =
    let d = digits b.field value b.written in
    ap (next_record default_config s fields []) b.parts ∙ numeral-run s start fields b.field (44 ∷ rest) d.0 d.1

-- digits and a line feed are the last field
pub field-feed : {X : Type 0} {value_of : List ℕ → Option X} → OfDigits value_of → (s : State) → IsStart s → (fields : Record) (text : List ℕ) (value : X) (rest : List ℕ)
    → (b : BeginsWithField value_of 10 text value rest)
    → next_record default_config s fields [] text ≡ Some (fields ++ b.field ∷ [], st.StartRecord, rest)
unfolding next_record
field-feed digits s start fields text value rest b =
    let d = digits b.field value b.written in
    ap (next_record default_config s fields []) b.parts ∙ numeral-run s start fields b.field (10 ∷ rest) d.0 d.1

-- pedal and speed
two-fields : (ending : ℕ) (text : List ℕ) (numbers : ℕ × ℕ × ℕ) (rest : List ℕ) → (b : BeginsWithDrive ending text numbers rest)
    → next_record default_config st.StartRecord [] [] text ≡ next_record default_config st.StartField (b.pedal.field ∷ b.speed.field ∷ []) [] b.after_speed
two-fields ending text numbers rest b =
    field-comma (number_of-digits 1000) st.StartRecord (inl refl) [] text numbers.0 b.after_pedal b.pedal
    ∙ field-comma (number_of-digits 8000) st.StartField (inr refl) (b.pedal.field ∷ []) b.after_pedal numbers.1 b.after_speed b.speed

-- pedal, speed and raise, where more comes behind them
three-fields : (text : List ℕ) (numbers : ℕ × ℕ × ℕ) (rest : List ℕ) → (b : BeginsWithDrive 44 text numbers rest)
    → next_record default_config st.StartRecord [] [] text
    ≡ next_record default_config st.StartField (b.pedal.field ∷ b.speed.field ∷ b.raise.field ∷ []) [] rest
three-fields text numbers rest b =
    two-fields 44 text numbers rest b
    ∙ field-comma (number_of-digits 10000) st.StartField (inr refl) (b.pedal.field ∷ b.speed.field ∷ []) b.after_speed numbers.2 rest b.raise

-- pedal, speed and raise, and a field behind them
four-fields : {X : Type 0} {value_of : List ℕ → Option X} → OfDigits value_of → (text : List ℕ) (numbers : ℕ × ℕ × ℕ) (middle : List ℕ) (value : X) (rest : List ℕ)
    → (b : BeginsWithDrive 44 text numbers middle) → (l : BeginsWithField value_of 10 middle value rest)
    → records_below text ≡ (b.pedal.field ∷ b.speed.field ∷ b.raise.field ∷ l.field ∷ []) ∷ records_below rest
four-fields digits text numbers middle value rest b l =
    records_after-some st.StartRecord text (b.pedal.field ∷ b.speed.field ∷ b.raise.field ∷ l.field ∷ [], st.StartRecord, rest) refl
    (three-fields text numbers middle b
    ∙ field-feed digits st.StartField (inr refl) (b.pedal.field ∷ b.speed.field ∷ b.raise.field ∷ []) middle value rest l)

-- a line of a drive trace without resets
pub trace-line : (text : List ℕ) (pedal speed raise : ℕ) (rest : List ℕ) → BeginsWithDrive 10 text (pedal, speed, raise) rest
    → BeginsWithRow (drive_of 3) text (driven pedal speed raise) rest
unfolding drive_of drive_at drive_from number_at truth_at field_at
trace-line text pedal speed raise rest b = record {
  fields = b.pedal.field ∷ b.speed.field ∷ b.raise.field ∷ [];
  parts = records_after-some st.StartRecord text (b.pedal.field ∷ b.speed.field ∷ b.raise.field ∷ [], st.StartRecord, rest) refl
      (two-fields 10 text (pedal, speed, raise) rest b
      ∙ field-feed (number_of-digits 10000) st.StartField (inr refl) (b.pedal.field ∷ b.speed.field ∷ []) b.after_speed raise rest b.raise);
  written = rw (b.pedal.written, b.speed.written, b.raise.written) refl;
}

-- a line of a drive trace with resets
pub reset-line : (text : List ℕ) (pedal speed raise : ℕ) (middle : List ℕ) (reset : Bool) (rest : List ℕ) → BeginsWithDrive 44 text (pedal, speed, raise) middle
    → BeginsWithTruth 10 middle reset rest → BeginsWithRow (drive_of 4) text (record (driven pedal speed raise) { reset = reset }) rest
unfolding drive_of drive_at drive_from number_at truth_at field_at
reset-line text pedal speed raise middle reset rest b t = record {
  fields = b.pedal.field ∷ b.speed.field ∷ b.raise.field ∷ t.field ∷ [];
  parts = four-fields truth_of-digits text (pedal, speed, raise) middle reset rest b t;
  written = rw (b.pedal.written, b.speed.written, b.raise.written, t.written) refl;
}

-- a line of a drive trace with resets and the brake
pub brake-line : (text : List ℕ) (pedal speed raise : ℕ) (middle : List ℕ) (reset : Bool) (end : List ℕ) (brake : Bool) (rest : List ℕ)
    → BeginsWithDrive 44 text (pedal, speed, raise) middle → BeginsWithTruth 44 middle reset end → BeginsWithTruth 10 end brake rest
    → BeginsWithRow (drive_of 5) text (record { pedal = pedal; speed = speed; raise = raise; reset = reset; brake = brake }) rest
unfolding drive_of drive_at drive_from number_at truth_at field_at
brake-line text pedal speed raise middle reset end brake rest b t l = record {
  fields = b.pedal.field ∷ b.speed.field ∷ b.raise.field ∷ t.field ∷ l.field ∷ [];
  parts =
      records_after-some st.StartRecord text (b.pedal.field ∷ b.speed.field ∷ b.raise.field ∷ t.field ∷ l.field ∷ [], st.StartRecord, rest) refl
      (three-fields text (pedal, speed, raise) middle b
      ∙ field-comma truth_of-digits st.StartField (inr refl) (b.pedal.field ∷ b.speed.field ∷ b.raise.field ∷ []) middle reset end t
      ∙ field-feed truth_of-digits st.StartField (inr refl) (b.pedal.field ∷ b.speed.field ∷ b.raise.field ∷ t.field ∷ []) end brake rest l);
  written = rw (b.pedal.written, b.speed.written, b.raise.written, t.written, l.written) refl;
}

-- a line of a check file
pub check-line : (text : List ℕ) (pedal speed raise : ℕ) (middle : List ℕ) (row : DriveRow) (torque : ℕ) (rest : List ℕ)
    → BeginsWithDrive 44 text (pedal, speed, raise) middle → BeginsWithNumber 65535 10 middle torque rest → row ≡ driven pedal speed raise
    → BeginsWithRow check_row_of text (row, torque) rest
unfolding check_row_of drive_at drive_from number_at field_at
check-line text pedal speed raise middle row torque rest b t is = record {
  fields = b.pedal.field ∷ b.speed.field ∷ b.raise.field ∷ t.field ∷ [];
  parts = four-fields (number_of-digits 65535) text (pedal, speed, raise) middle torque rest b t;
  written = rw (b.pedal.written, b.speed.written, b.raise.written, t.written, is) refl;
}

-- bytes that begin with others
begins : (prefix text : List ℕ) → pointwise nat_eq (take (length prefix) text) prefix ≡ true → text ≡ prefix ++ drop (length prefix) text
begins prefix text same = sym (take-append-drop (length prefix) text) ∙ ap (λ (l : List ℕ). l ++ drop (length prefix) text) ((bytes_eq-Decides (take (length prefix) text) prefix).0 same)

-- a file that begins with the bytes of one of the headers
header-begins : (headers : List Record) (header : Record) (prefix rest : List ℕ) → is_header headers header ≡ true
    → next_record default_config st.StartRecord [] [] (prefix ++ rest) ≡ Some (header, st.StartRecord, rest) → strip_bom (prefix ++ rest) ≡ prefix ++ rest
    → BeginsWithHeader headers (prefix ++ rest) (length header) rest
unfolding records_of
header-begins headers header prefix rest known run bom = record {
  header = header;
  known = known;
  long = refl;
  parts = rw bom (records_after-some st.StartRecord (prefix ++ rest) (header, st.StartRecord, rest) refl run);
}

-- the headers of a drive trace
pub trace-begins : (rest : List ℕ) → BeginsWithHeader trace_headers (codes "pedal,speed,raise\n" ++ rest) 3 rest
unfolding next_record strip_bom is_header is_same_record trace_headers
trace-begins rest = header-begins trace_headers (codes "pedal" ∷ codes "speed" ∷ codes "raise" ∷ []) (codes "pedal,speed,raise\n") rest refl refl refl

pub reset-begins : (rest : List ℕ) → BeginsWithHeader trace_headers (codes "pedal,speed,raise,reset\n" ++ rest) 4 rest
unfolding next_record strip_bom is_header is_same_record trace_headers
reset-begins rest =
    header-begins trace_headers (codes "pedal" ∷ codes "speed" ∷ codes "raise" ∷ codes "reset" ∷ []) (codes "pedal,speed,raise,reset\n") rest refl refl refl

pub brake-begins : (rest : List ℕ) → BeginsWithHeader trace_headers (codes "pedal,speed,raise,reset,brake\n" ++ rest) 5 rest
unfolding next_record strip_bom is_header is_same_record trace_headers
brake-begins rest =
    header-begins trace_headers (codes "pedal" ∷ codes "speed" ∷ codes "raise" ∷ codes "reset" ∷ codes "brake" ∷ []) (codes "pedal,speed,raise,reset,brake\n")
    rest refl refl refl

-- the header of a check file
pub check-begins : (rest : List ℕ) → BeginsWithHeader (check_header ∷ []) (codes "pedal,speed,raise,torque\n" ++ rest) 4 rest
unfolding next_record strip_bom is_header is_same_record check_header
check-begins rest = header-begins (check_header ∷ []) check_header (codes "pedal,speed,raise,torque\n") rest refl refl refl

-- what stands behind a prefix that is taken off
abbrev HasPrefix : List ℕ → List ℕ → Bor (List ℕ) → Type 0
HasPrefix prefix text rest = (pointwise nat_eq (take (length prefix) text) prefix ≡ true) × (rest.now ≡ drop (length prefix) text) × (length rest.now + length prefix ≡ length text)

-- a file that begins with a header's bytes
pub below-prefix : (headers : List Record) (width : ℕ) (prefix text : List ℕ) → ((rest : List ℕ) → BeginsWithHeader headers (prefix ++ rest) width rest)
    → (rest : Bor (List ℕ)) → HasPrefix prefix text rest → BeginsWithHeader headers text width rest.now
below-prefix headers width prefix text reads rest h =
    let P : List ℕ → Type 0 = λ t. BeginsWithHeader headers t width (drop (length prefix) text) in
    rw h.1 (subst P (sym (begins prefix text h.0)) (reads (drop (length prefix) text)))

-- behind the last line there is no record
pub no-records : records_below [] ≡ []
unfolding next_record
no-records = records_after-none st.StartRecord [] refl

-- below the header stand the records of the rest
pub below-header : {X : Type 0} (headers : List Record) (row_of : ℕ → RowRule X) (text : List ℕ) (width : ℕ) (rest : List ℕ) (read : Result (Vec X Global) TraceFault)
    → BeginsWithHeader headers text width rest → IsRead (rows_below 20000 (row_of width) (records_below rest)) read → IsRead (file_rows headers row_of (records_of text)) read
unfolding file_rows
below-header headers row_of text width rest read b h = rw (b.parts, b.known, b.long) h
