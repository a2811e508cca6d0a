-- The refusal of a key of a campaign file that doesn't hold what it may (F17).
use Rattle.std.specs.Prelude.{ℕ, List, [], ◌∷◌, Option, None}
use Rattle.toml.specs.Data.{Members}
use Rattle.eg_toml.specs.Values.{number_at}
use Rattle.eg_plan.specs.declared.key.CampaignFault.{CampaignFault}
use Rattle.eg_plan.specs.declared.key.CampaignFault.TheVariants.{Key}
use Rattle.eg_plan.specs.Keys.{Content, run_name, file_name, slice_rows, engine_name, number, optional, shift, words, ticks, truths, KeyRule, text_of}
use Rattle.eg_toml.specs.Refusals.{or_else, unless_some}
use Rattle.eg_plan.specs.Contents.{text_at, is_run_name, is_file_name, slices_at, engine_at, optional_at, shift_at, words_at, ticks_at, truths_at}

abbrev pub content_refusal : CampaignFault → Content → List ℕ → Members → Option CampaignFault
content_refusal f run_name key ms = unless_some f (text_at is_run_name key ms)
content_refusal f file_name key ms = unless_some f (text_at is_file_name key ms)
content_refusal f slice_rows key ms = unless_some f (slices_at key ms)
content_refusal f engine_name key ms = unless_some f (engine_at key ms)
content_refusal f (number low high) key ms = unless_some f (number_at low high key ms)
content_refusal f (optional high) key ms = unless_some f (optional_at high key ms)
content_refusal f shift key ms = unless_some f (shift_at key ms)
content_refusal f words key ms = unless_some f (words_at key ms)
content_refusal f ticks key ms = unless_some f (ticks_at key ms)
content_refusal f truths key ms = unless_some f (truths_at key ms)

abbrev pub key_refusal : ℕ → KeyRule → Members → Option CampaignFault
key_refusal n rule ms = content_refusal (Key n rule.key) rule.content (text_of rule.key) ms

unfoldable pub keys_refusal : ℕ → List KeyRule → Members → Option CampaignFault
keys_refusal n [] ms = None
keys_refusal n (rule ∷ rules) ms = or_else (key_refusal n rule ms) (keys_refusal n rules ms)
