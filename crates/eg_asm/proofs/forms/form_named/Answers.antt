use Rattle.std.proofs.Common.{rules, ◌≡◌, ◌∙◌, sym, ap, option_map}
use Rattle.std.specs.Prelude.{find}
use Rattle.std.specs.Str.{bytes_eq}
use Rattle.std.proofs.lemmas.Iterator.{YieldsList-from_slice}
use Rattle.std.proofs.lemmas.Iterator.Search.{find_from_yields_List}
use borrow.Author.Tests.{tests}
use Rattle.eg_asm.specs.Forms.{form_named}
use Rattle.eg_asm.specs.Inner.Rows.{form_in}
use Rattle.eg_asm.proofs.FormLemmas.{find-map, option_map-option_map}
use Rattle.eg_asm.proofs.forms.form_named.Goals as goal

pub returns : goal.returns
unfolding form_named
returns c =
    let rows = c.all_forms.result.now in
    let found : option_map (λ row. row.now) c.find.result ≡ find (λ row. bytes_eq row.mnemonic.now c.args.mnemonic.now) rows =
    find_from_yields_List (λ row. bytes_eq row.mnemonic.now c.args.mnemonic.now) _ _ c.find.result c.find.ensures.ran (YieldsList-from_slice rows c.iter.ensures.rest) (λ x b q k. search (rules, tests)) in
    option_map-option_map (λ row. row.now) form_in c.find.result ∙ ap (option_map form_in) found
    ∙ sym (find-map form_in (λ f. bytes_eq f.mnemonic c.args.mnemonic.now) rows) ∙ ap (find (λ f. bytes_eq f.mnemonic c.args.mnemonic.now)) c.all_forms.ensures.all
