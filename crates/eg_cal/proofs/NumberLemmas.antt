-- What is read under a key that may hold a number is what the table of keys says of it.
use Rattle.std.proofs.Common.{◌≡◌, ℕ, sym, subst, Result}
use Rattle.std.specs.Prelude.{unwrap_or}
use Rattle.toml.specs.Data.{Members}
use Rattle.eg_toml.specs.Refusals.{Checks, unless_some}
use Rattle.eg_cal.specs.declared.key.CalKey.{CalKey}
use Rattle.eg_cal.specs.declared.key.CalFault.{CalFault}
use Rattle.eg_cal.specs.declared.key.CalFault.TheVariants.{Key}
use Rattle.eg_cal.specs.Keys.{Content, number}
use Rattle.eg_cal.specs.Contents.{read_number, number_as}
use Rattle.eg_cal.specs.Checks.{content_fault}

pub number-checks : (content : Content) (ms : Members) (key : CalKey) (low high : ℕ) (result : Result ℕ CalFault) → content ≡ number low high
    → Checks (unless_some (Key key) (read_number low high ms key)) (unwrap_or (read_number low high ms key) 0) result
    → Checks (content_fault content ms key) (number_as content ms key) result
number-checks content ms key low high result held read = subst (λ may. Checks (content_fault may ms key) (number_as may ms key) result) (sym held) read
