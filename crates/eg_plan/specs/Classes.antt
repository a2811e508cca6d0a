-- What the own keys of a class of faults say (F16).
use Rattle.std.specs.Prelude.{List, map, codes, Option}
use Rattle.toml.specs.Data.{Members, get_member, as_str}
use Rattle.eg_toml.specs.Values.{◌>>=◌}
use Rattle.eg_fault.specs.declared.class.Class.{Class}
use Rattle.eg_fault.specs.declared.class.Class.TheVariants as class
use Rattle.eg_fault.specs.declared.class_name.ClassName.{ClassName}
use Rattle.eg_fault.specs.declared.class_name.ClassName.TheVariants.{Script, Offset, Bus, Plate, Skip, Disturb, Flip, Halt, Timing, Wild, Path1Closed, Path2Closed, PathOpen, Lapse}
use Rattle.eg_fault.specs.declared.key.FaultKey.TheVariants.{Track, Values, Add, Mask, At, Module, Word, Questions, Opens, Path, After, Every}
use Rattle.eg_fault.specs.declared.key.FaultKey.TheVariants as key
use Rattle.eg_fault.specs.Names.{class_named, own_keys}
use Rattle.eg_plan.specs.Keys.{KeyRule, rule_of}
use Rattle.eg_plan.specs.Contents.{number_of, shift_of, numbers_of, truths_of}

-- F16
abbrev pub own_rules : ClassName → List KeyRule
own_rules name = map (rule_of name) (own_keys name)

abbrev pub class_of : ClassName → Members → Class
class_of Script ms =
    class.Script (number_of (rule_of Script Track) ms) (numbers_of (rule_of Script Values) ms)
class_of Offset ms = class.Offset (number_of (rule_of Offset Track) ms) (shift_of (rule_of Offset Add) ms)
class_of Bus ms = class.Bus (number_of (rule_of Bus Mask) ms)
class_of Plate ms = class.Plate (number_of (rule_of Plate At) ms)
class_of Skip ms = class.Skip (number_of (rule_of Skip Module) ms)
class_of Disturb ms =
    class.Disturb (number_of (rule_of Disturb Module) ms) (number_of (rule_of Disturb Mask) ms)
class_of Flip ms = class.Flip (number_of (rule_of Flip Word) ms) (number_of (rule_of Flip Mask) ms)
class_of Halt ms = class.Halt
class_of Timing ms = class.Timing (number_of (rule_of Timing key.Offset) ms)
class_of Wild ms = class.Wild (numbers_of (rule_of Wild Questions) ms) (truths_of (rule_of Wild Opens) ms)
class_of Path1Closed ms = class.Path1Closed
class_of Path2Closed ms = class.Path2Closed
class_of PathOpen ms = class.PathOpen (number_of (rule_of PathOpen Path) ms)
class_of Lapse ms = class.Lapse (numbers_of (rule_of Lapse After) ms) (number_of (rule_of Lapse Every) ms)

abbrev pub class_in : Members → Option ClassName
class_in ms = get_member (codes "class") ms >>= as_str >>= class_named
