-- What an editor is given for an event.
use Rattle.std.proofs.Common.{◌≡◌, ℕ, true, false, cond, List, Option, Some, None, IsUtf8, chars, encode_utf8_all, reverse, refl, ap, sym, ◌∙◌}
use Rattle.std.proofs.lemmas.List.{reverse-reverse}
use Rattle.std.proofs.lemmas.Str.{encodes-chars}
use Rattle.crossterm_types.specs.Seen.{Seen, Paste}
use Rattle.line_editor.specs.States.{EditorState}
use Rattle.prompt.specs.Completing.{completed, given_by, is_tab}

-- An event that isn't Tab stays as it is.
pub not_tab : (c : Option (List ℕ)) (e : Seen) → is_tab e ≡ false → completed c e ≡ e
not_tab None e other = refl
not_tab (Some text) e other = ap (λ b. cond b (Paste text) e) other

module _ (completes : List ℕ → List ℕ → Option (List ℕ)) (w : EditorState) (e : Seen) where
  -- What comes of what helps the texts before and behind the cursor.
  by_texts : (before after : List ℕ) → IsUtf8 before → IsUtf8 after → reverse (chars before) ≡ w.line.before → chars after ≡ w.line.after
      → given_by completes w e ≡ completed (completes before after) e
  by_texts before after u v b a =
      let front : encode_utf8_all (reverse w.line.before) ≡ before = ap (λ t. encode_utf8_all (reverse t)) (sym b) ∙ ap encode_utf8_all (reverse-reverse (chars before)) ∙ encodes-chars before u in
      let back : encode_utf8_all w.line.after ≡ after = ap encode_utf8_all (sym a) ∙ encodes-chars after v in
      ap (λ x. completed (completes x (encode_utf8_all w.line.after)) e) front ∙ ap (λ x. completed (completes before x) e) back

  -- Tab is a paste of the text that completes the line.
  pub given_text : (before after text : List ℕ) → IsUtf8 before → IsUtf8 after → reverse (chars before) ≡ w.line.before → chars after ≡ w.line.after
      → Some text ≡ completes before after → is_tab e ≡ true → given_by completes w e ≡ Paste text
  given_text before after text u v b a is tab = by_texts before after u v b a ∙ ap (λ c. completed c e) (sym is) ∙ ap (λ t. cond t (Paste text) e) tab

  -- Without one it stays as it is.
  pub given_itself : (before after : List ℕ) → IsUtf8 before → IsUtf8 after → reverse (chars before) ≡ w.line.before → chars after ≡ w.line.after
      → None ≡ completes before after → given_by completes w e ≡ e
  given_itself before after u v b a is = by_texts before after u v b a ∙ ap (λ c. completed c e) (sym is)

  -- So does any other event.
  pub given_other : is_tab e ≡ false → given_by completes w e ≡ e
  given_other other = not_tab (completes (encode_utf8_all (reverse w.line.before)) (encode_utf8_all w.line.after)) e other
