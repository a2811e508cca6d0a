use Rattle.std.proofs.Common.{◌≡◌, ap, [], map}
use Rattle.std.specs.Prelude.{string_bytes}
use Rattle.eg_soak.specs.Texts.{lines_of, numbers}
use Rattle.eg_soak.proofs.texts.soak_lines.Goals as goal

pub returns : goal.returns
unfolding numbers
returns c =
    let none : map string_bytes c.new-lines.result.items ≡ lines_of [] =
    unfold lines_of in (ap (map string_bytes) c.new-lines.ensures.items) in
    let runs = c.in_ok-push.ensures _ none in
    let undetected = c.in_ok-push-2.ensures _ runs in
    let mirror = c.in_ok-push-3.ensures _ undetected in
    let pedal = c.in_ok-push-4.ensures _ mirror in
    let plate = c.in_ok-push-5.ensures _ pedal in
    let load = c.in_ok-push-6.ensures _ plate in
    let speed = c.in_ok-push-7.ensures _ load in
    let torque = c.in_ok-push-8.ensures _ speed in
    let answers = c.in_ok-push-9.ensures _ torque in
    let trapped = c.in_ok-push-10.ensures _ answers in
    let off = c.in_ok-push-11.ensures _ trapped in
    c.in_ok-push-12.ensures _ off
