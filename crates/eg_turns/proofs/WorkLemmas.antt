-- A tick of level 1 and level 2, from what the memory holds before it to what it holds after it.
use Rattle.std.proofs.Common.{◌≡◌, ◌∙◌, sym, ap, ℕ, List, length}
use Rattle.std.specs.Prelude.{Result, Ok, Err, OnOk, IsErr}
use Rattle.std.proofs.lemmas.Result.{IfOk-from_err, on_ok_weaker}
use Rattle.eg_guard.specs.Memory.{AreWords, ShownMemory, SameOutside, KeepsMemory}
use Rattle.eg_guard.proofs.KeepsLemmas.{keeps_then, keeps_refused}
use Rattle.eg_fault.specs.Effects.{Effects}
use Rattle.eg_word.specs.declared.registers.Registers.{Registers}
use Rattle.eg_level2.specs.Inputs.{Level2Parts, readings_of, asked_of}
use Rattle.eg_level2.specs.Ticks.{after_modules, after_tick}
use Rattle.eg_level2.specs.declared.step.Step.{Step}
use Rattle.eg_turns.specs.Board.{is_board_own, by_tracks}
use Rattle.eg_turns.specs.Inner.Midway.{RunLevels}
use Rattle.eg_turns.specs.Midway.{Work, rest_of, IsMidway, IsDue}
use Rattle.eg_turns.specs.Working.{Holds, Works}
use Rattle.eg_host.specs.Level1.{Level1Parts}
use Rattle.eg_turns.specs.declared.working.Task.{Task}
use Rattle.eg_turns.proofs.FrameLemmas.{shown-words, shown-mirrors, shown-code, shown-world}
use Rattle.eg_turns.proofs.MidwayLemmas.{all-words, all-world}

-- as the board has shown what both are given
begins : (parts : Level2Parts) (x : Effects) (task : Task) (w : Work) (m : Registers) (old shown : List ℕ) → IsDue parts x task w
    → AreWords old → AreWords shown → SameOutside is_board_own old shown → readings_of shown ≡ by_tracks task.readings → asked_of shown ≡ task.asked
    → Holds w.image w.words w.world m old → IsMidway w 0 0 m shown
unfolding after_modules
begins parts x task w m old shown due are_old are same readings asked holds = record {
  set = record {
    are_words = are;
    code = λ k within. shown-code old shown same k within ∙ holds.code k within;
    readings = readings ∙ sym due.readings;
    asked = asked ∙ sym due.asked;
  };
  mirrored = shown-mirrors old shown same holds.mirrored;
  words = shown-words old shown same ∙ holds.words_are;
  world = ap (rest_of w 0) (shown-world old shown same m are_old are ∙ holds.world_is);
}

-- as all slices and modules are done
ends : (w : Work) (m : Registers) (memory : List ℕ) → length w.slices ≡ 9 → IsMidway w 9 8 m memory
    → Holds w.image (after_tick w.doing w.words) (rest_of w 0 w.world) m memory
ends w m memory nine is = record {
  code = is.set.code;
  mirrored = is.mirrored;
  words_are = all-words w 9 m memory is;
  world_is = all-world w 8 m memory nine is;
}

ended : {E : Type 0} (result : Result Step E) (slices : List ℕ) (w : Work) (m : Registers) (memory : List ℕ) → w.slices ≡ slices
    → OnOk result (length slices ≡ 9) → OnOk result (IsMidway w 9 8 m memory)
    → OnOk result (Holds w.image (after_tick w.doing w.words) (rest_of w 0 w.world) m memory)
ended (Ok step) slices w m memory same nine is = ends w m memory (ap length same ∙ nine) is
ended (Err e) slices w m memory same nine is = tt

-- memory ran out while the board stored
pub refused : {parts : Level2Parts} {x : Effects} {task : Task} {before after : Level1Parts} {old shown : ShownMemory} {T E F : Type 0} {e : E}
    (result : Result Step F) → IsErr result → (let refused : Result T E = Err e in KeepsMemory old shown refused)
    → Works parts x task before after old shown result
refused {old = old} {shown = shown} {e = e} result is keeps = record {
  holds = λ w due held. IfOk-from_err result _ is;
  step = λ w due held. IfOk-from_err result _ is;
  nine = IfOk-from_err result _ is;
  program = IfOk-from_err result _ is;
  keeps = keeps_refused old shown e result is keeps;
}

-- the turns ran behind it
pub worked : {parts : Level2Parts} {x : Effects} {task : Task} {before after : Level1Parts} {old shown new : ShownMemory} {T E F : Type 0} {made : T}
    (result : Result Step F) → AreWords old.words → SameOutside is_board_own old.words shown.words
    → readings_of shown.words ≡ by_tracks task.readings → asked_of shown.words ≡ task.asked
    → (let done : Result T E = Ok made in KeepsMemory old shown done) → RunLevels parts x task before after shown new result
    → Works parts x task before after old new result
worked {parts} {x} {task} {before} {after} {old} {shown} {new} {made = made} result are same readings asked keeps runs = record {
  holds = λ w due held. ended result task.slices w after.registers new.words due.budgets runs.nine
      (runs.midway w due (begins parts x task w before.registers old.words shown.words due are (keeps.are_words are) same readings asked held));
  step = λ w due held. runs.step w due
      (begins parts x task w before.registers old.words shown.words due are (keeps.are_words are) same readings asked held);
  nine = runs.nine;
  program = on_ok_weaker result (λ ready. ready.decoded) runs.ready;
  keeps = keeps_then old shown new made result keeps runs.keeps;
}
