-- The tokens of acts one after another are those of all acts together.
use Rattle.std.proofs.Common.{◌≡◌, ℕ, List, ◌++◌, sym, subst}
use Rattle.std.proofs.lemmas.List.Concat.{flat_map-append}
use Rattle.std.specs.Fmt.{WritesInCalls}
use Rattle.crossterm_command.specs.Tokens.{text_of}
use Rattle.crossterm_command.specs.declared.color_output.ColorOutput.{ColorOutput}
use Rattle.crossterm_command.proofs.Texts.{says_both}
use Rattle.crossterm_style.specs.Acts.{StyleAct}
use Rattle.crossterm_style.specs.Styles.{act_functions, act_tokens}

pub tokens_joined : (colors : ColorOutput) (first second : List StyleAct) → act_tokens colors (first ++ second) ≡ act_tokens colors first ++ act_tokens colors second
tokens_joined colors = flat_map-append (act_functions colors)

pub tokens_of_acts : {W : Type 0} (took : W → List ℕ → W → Type 0) (colors : ColorOutput) (w : W) (first : List StyleAct) (v : W) (second : List StyleAct) (u : W)
    → WritesInCalls took w (text_of (act_tokens colors first)) v → WritesInCalls took v (text_of (act_tokens colors second)) u → WritesInCalls took w (text_of (act_tokens colors (first ++ second))) u
tokens_of_acts took colors w first v second u p q =
    subst (λ ts. WritesInCalls took w (text_of ts) u) (sym (tokens_joined colors first second)) (says_both took w (act_tokens colors first) v (act_tokens colors second) u p q)
