-- What is shown of an editor's line.
use Rattle.std.proofs.Common.{◌≡◌, ℕ, Bool, true, false, if◌then◌else◌, List, [], IsUtf8, chars, encode_utf8_all, reverse, ap, sym, ◌∙◌}
use Rattle.std.proofs.lemmas.List.{reverse-reverse}
use Rattle.std.proofs.lemmas.Str.{encodes-chars}
use Rattle.line_editor.specs.Splits.{Split}
use Rattle.prompt.specs.Shown.{PromptRun, Shown}

-- What is shown, of these parts.
abbrev pub seen : List PromptRun → Split → List ℕ → List (List ℕ) → Shown
seen prompt line hint candidates = record { prompt = prompt; line = line; hint = hint; candidates = candidates }

-- The same parts show the same.
pub seen_is : (p q : List PromptRun) (l m : Split) (h i : List ℕ) (n o : List (List ℕ)) → p ≡ q → l ≡ m → h ≡ i → n ≡ o → seen p l h n ≡ seen q m i o
seen_is p q l m h i n o prompt line hint names =
    ap (λ (x : List PromptRun). seen x l h n) prompt ∙ ap (λ (x : Split). seen q x h n) line ∙ ap (λ (x : List ℕ). seen q m x n) hint ∙ ap (λ (x : List (List ℕ)). seen q m i x) names

-- The candidates that a helper has for the texts before and behind the cursor.
pub candidates_of : (candidates : List ℕ → List ℕ → List (List ℕ)) (d : Split) (before after : List ℕ) → IsUtf8 before → IsUtf8 after
    → reverse (chars before) ≡ d.before → chars after ≡ d.after → candidates before after ≡ candidates (encode_utf8_all (reverse d.before)) (encode_utf8_all d.after)
candidates_of candidates d before after u v b a =
    let front : encode_utf8_all (reverse d.before) ≡ before = ap (λ t. encode_utf8_all (reverse t)) (sym b) ∙ ap encode_utf8_all (reverse-reverse (chars before)) ∙ encodes-chars before u in
    let back : encode_utf8_all d.after ≡ after = ap encode_utf8_all (sym a) ∙ encodes-chars after v in
    ap (λ x. candidates x after) (sym front) ∙ ap (λ x. candidates (encode_utf8_all (reverse d.before)) x) (sym back)

-- Candidates that are listed or not.
pub listed : (lists : Bool) (names : List (List ℕ)) → lists ≡ true → names ≡ (if lists then names else [])
listed lists names is = ap (λ (b : Bool). if b then names else []) (sym is)

pub unlisted : (lists : Bool) (names : List (List ℕ)) → lists ≡ false → [] ≡ (if lists then names else [])
unlisted lists names is = ap (λ (b : Bool). if b then names else []) (sym is)
