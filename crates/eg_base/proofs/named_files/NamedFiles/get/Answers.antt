use Rattle.std.proofs.Common.{◌≡◌, ◌∙◌, ap, arith}
use Rattle.std.proofs.lemmas.Grind.{common_steps}
use Rattle.eg_base.specs.Inner.NamedFiles.{files_of}
use Rattle.eg_base.proofs.NamedFilesLemmas.{found-get}
use Rattle.eg_base.proofs.named_files.NamedFiles.get.Goals as goal

pub returns-in_err-file : goal.returns-in_err-file
returns-in_err-file c =
    let seen : files_of c.deref.result.now ≡ c.args.self.now = ap files_of c.deref.ensures.value ∙ c.self.view_is in
    let is : _ ≡ _ = found-get c.deref.result.now _ c.args.name.now _ seen c.find_last.ensures in
    grind (arith, common_steps, is)

pub returns : goal.returns
returns c =
    let seen : files_of c.deref.result.now ≡ c.args.self.now = ap files_of c.deref.ensures.value ∙ c.self.view_is in
    let is : _ ≡ _ = found-get c.deref.result.now _ c.args.name.now _ seen c.find_last.ensures in
    grind (arith, common_steps, is)
