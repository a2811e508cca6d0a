-- The keys of a calibration file and what they may hold (F20). They are checked in the order in which they
-- stand here (F21).
use Rattle.std.specs.Prelude.{ℕ, nat_le, Bool, List, [], ◌∷◌, ◌++◌, codes, if◌then◌else◌}
use Rattle.eg_cal.specs.declared.key.CalKey.{CalKey}
use Rattle.eg_cal.specs.declared.key.CalKey.TheVariants.{Version, PermitPedal, PermitSpeed, PermitTable, PermitThreshold, PermitBrake, PermitFall, TorqueKt, TorqueUp, TorqueDown, TorqueLimit, PairsPedal, PairsPlate, PairsLoad, PairsSpeed, PairsUp, PairsDown, PairsLimit, PlantSlew, PlantFill, PlantAngle, PlantCharge, AnswersPeriod, AnswersFirst, AnswersLast, AnswersSend, AnswersUp, AnswersDown, AnswersLimit, Question, Unknown}

-- F20. The values of an axis are as many numbers as it has points. A grid has a row for each point of its
-- first axis, and each row has a number for each point of the second.
pub data Content : Type 0 where
  number : ℕ → ℕ → Content  -- from .. to ..
  truth : Content
  axis : ℕ → Content  -- points from 0 to ..
  values : CalKey → ℕ → Content  -- of this axis, from 0 to ..
  grid : CalKey → CalKey → ℕ → Content  -- of these axes, from 0 to ..
  questions : Content  -- 2 to 64 questions
  nothing : Content

-- the table in which a key stands, empty at the top; its own name there; and what it holds
pub record Entry : Type 0 where
  pub table : List ℕ
  pub name : List ℕ
  pub content : Content

abbrev at_top : List ℕ → Content → Entry
at_top name content = record { table = []; name = name; content = content }

abbrev in_table : List ℕ → List ℕ → Content → Entry
in_table table name content = record { table = table; name = name; content = content }

-- F20
abbrev pub entry_of : CalKey → Entry
entry_of Version = at_top (codes "version") (number 1 3)
entry_of PermitPedal = in_table (codes "permit") (codes "pedal") (axis 1000)
entry_of PermitSpeed = in_table (codes "permit") (codes "speed") (axis 8000)
entry_of PermitTable = in_table (codes "permit") (codes "table") (grid PermitPedal PermitSpeed 10000)
entry_of PermitThreshold = in_table (codes "permit") (codes "threshold") (number 0 10000)
entry_of PermitBrake = in_table (codes "permit") (codes "brake") truth
entry_of PermitFall = in_table (codes "permit") (codes "fall") (number 0 10000)
entry_of TorqueKt = in_table (codes "torque") (codes "kt") (number 1 10000)
entry_of TorqueUp = in_table (codes "torque") (codes "up") (number 1 100)
entry_of TorqueDown = in_table (codes "torque") (codes "down") (number 0 100)
entry_of TorqueLimit = in_table (codes "torque") (codes "limit") (number 1 10000)
entry_of PairsPedal = in_table (codes "pairs") (codes "pedal") (number 0 10000)
entry_of PairsPlate = in_table (codes "pairs") (codes "plate") (number 0 10000)
entry_of PairsLoad = in_table (codes "pairs") (codes "load") (number 0 10000)
entry_of PairsSpeed = in_table (codes "pairs") (codes "speed") (number 0 10000)
entry_of PairsUp = in_table (codes "pairs") (codes "up") (number 1 100)
entry_of PairsDown = in_table (codes "pairs") (codes "down") (number 0 100)
entry_of PairsLimit = in_table (codes "pairs") (codes "limit") (number 1 10000)
entry_of PlantSlew = in_table (codes "plant") (codes "slew") (number 1 1000)
entry_of PlantFill = in_table (codes "plant") (codes "fill") (number 1 1000)
entry_of PlantAngle = in_table (codes "plant") (codes "angle") (axis 1000)
entry_of PlantCharge = in_table (codes "plant") (codes "charge") (values PlantAngle 1000)
entry_of AnswersPeriod = in_table (codes "answers") (codes "period") (number 2 100)
entry_of AnswersFirst = in_table (codes "answers") (codes "first") (number 0 99)
entry_of AnswersLast = in_table (codes "answers") (codes "last") (number 0 99)
entry_of AnswersSend = in_table (codes "answers") (codes "send") (number 0 99)
entry_of AnswersUp = in_table (codes "answers") (codes "up") (number 1 100)
entry_of AnswersDown = in_table (codes "answers") (codes "down") (number 0 100)
entry_of AnswersLimit = in_table (codes "answers") (codes "limit") (number 1 10000)
entry_of Question = at_top (codes "question") questions
entry_of Unknown = at_top (codes "unknown") nothing

-- F20: from version 2 on
abbrev pub has_brake : ℕ → Bool
has_brake version = nat_le 2 version

-- F20: from version 3 on
abbrev pub has_fall : ℕ → Bool
has_fall version = nat_le 3 version

-- F20, in the order of the checks
abbrev pub version_keys : List CalKey
version_keys = Version ∷ []

abbrev pub fall_keys : ℕ → List CalKey
fall_keys version = if has_fall version then PermitFall ∷ [] else []

abbrev pub brake_keys : ℕ → List CalKey
brake_keys version = if has_brake version then PermitBrake ∷ fall_keys version else []

abbrev pub permit_keys : ℕ → List CalKey
permit_keys version =
    PermitPedal ∷ PermitSpeed ∷ PermitTable ∷ PermitThreshold ∷ brake_keys version

abbrev pub torque_keys : List CalKey
torque_keys = TorqueKt ∷ TorqueUp ∷ TorqueDown ∷ TorqueLimit ∷ []

abbrev pub pairs_keys : List CalKey
pairs_keys = PairsPedal ∷ PairsPlate ∷ PairsLoad ∷ PairsSpeed ∷ PairsUp ∷ PairsDown ∷ PairsLimit ∷ []

abbrev pub plant_keys : List CalKey
plant_keys = PlantSlew ∷ PlantFill ∷ PlantAngle ∷ PlantCharge ∷ []

abbrev pub answers_keys : List CalKey
answers_keys =
    AnswersPeriod ∷ AnswersFirst ∷ AnswersLast ∷ AnswersSend ∷ AnswersUp ∷ AnswersDown ∷ AnswersLimit ∷ []

abbrev pub question_keys : List CalKey
question_keys = Question ∷ []

-- all but `version`, table after table
abbrev pub lower_keys : ℕ → List (List CalKey)
lower_keys version =
    permit_keys version ∷ torque_keys ∷ pairs_keys ∷ plant_keys ∷ answers_keys ∷ question_keys ∷ []

-- F20
abbrev pub all_keys : ℕ → List (List CalKey)
all_keys version = version_keys ∷ lower_keys version

abbrev pub table_of : CalKey → List ℕ
table_of key = (entry_of key).table

abbrev pub name_of : CalKey → List ℕ
name_of key = (entry_of key).name

abbrev pub content_of : CalKey → Content
content_of key = (entry_of key).content

abbrev dotted : List ℕ → List ℕ → List ℕ
dotted [] name = name
dotted (c ∷ cs) name = (c ∷ cs) ++ codes "." ++ name

-- F21, as notes print a key
abbrev pub text_of : CalKey → List ℕ
text_of key = dotted (table_of key) (name_of key)
