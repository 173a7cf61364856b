-- Control characters in a text, one character after another.
use Rattle.std.proofs.Common.{◌≡◌, ℕ, ◌+◌, ◌<◌, ◌||◌, true, false, List, length, take, get_or, sym, ap, ◌∙◌}
use Rattle.std.specs.Char.{is_control}
use Rattle.std.proofs.lemmas.List.Folds.{list_any_at, list_any_more}
use Rattle.prompt.specs.Prompts.{has_control}

-- One character more that is none.
pub none_more : (text : List ℕ) (n c : ℕ) → n < length text → c ≡ get_or text n c → is_control c ≡ false → has_control (take n text) ≡ false → has_control (take (n + 1) text) ≡ false
none_more text n c lt is none before =
    list_any_more is_control text n c lt ∙ ap (λ b. b || is_control (get_or text n c)) before ∙ ap is_control (sym is) ∙ none

-- A text with one that is.
pub some_at : (text : List ℕ) (n c : ℕ) → n < length text → c ≡ get_or text n c → is_control c ≡ true → has_control text ≡ true
some_at text n c lt is some = list_any_at is_control text n c lt (ap is_control (sym is) ∙ some)
