-- The room that a target takes in a word.
use Rattle.std.specs.Prelude.{ℕ, ◌-◌, ◌*◌, Option, Some, None}
use Rattle.eg_asm.specs.declared.encoding.Jump.{Jump}

abbrev pub room_of : Option Jump → ℕ
room_of None = 0
room_of (Some jump) = 2 * jump.reach - 1
