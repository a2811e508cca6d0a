-- The table of the code: its rows are the forms.
use Rattle.eg_asm.specs.declared.form.FormRow.{FormRow}
use Rattle.eg_asm.specs.Forms.{Form, form}

abbrev pub form_in : FormRow → Form
form_in row = form row.mnemonic.now row.base row.operands.now
