-- How names complete a text.
use Rattle.std.proofs.Common.{◌≡◌, ℕ, ◌+◌, ◌<◌, ◌==◌, ◌++◌, true, false, true≢false, cond, List, [], ◌∷◌, Option, Some, None, Bor, chars, IsUtf8, encode_utf8_all, length, take, drop, map, get_or, refl, ap, sym, ◌∙◌, append-nil, arith}
use Rattle.std.proofs.lemmas.Bool.{eqb-true}
use Rattle.std.proofs.lemmas.Bool.Decides.{Decides-eqb}
use Rattle.std.proofs.lemmas.List.{at_drop_more, map-append, take_more}
use Rattle.std.proofs.lemmas.List.Elements.{filter-append}
use Rattle.std.proofs.lemmas.Slice.Eq.{starts_is}
use Rattle.std.proofs.lemmas.Str.{chars-nil, encodes-chars}
use Rattle.std.specs.List.{filter, starts_with}
use Rattle.prompt.specs.Words.{begins_with, common, common_to, first_rest, names_with, rest_among, rest_of, rest_or, text_unless_empty}

-- A name that begins with a text.
begins : (text name : List ℕ) (n : ℕ) → name ≡ text ++ drop n name → true ≡ begins_with text name
begins text name n split = sym ((starts_is Decides-eqb name text _ refl).1 _ split)

pub rest_behind : (text name rest : List ℕ) (n : ℕ) → n ≡ length text → name ≡ text ++ drop n name → rest ≡ drop n name → rest ≡ rest_of text name
rest_behind text name rest n len split is =
    is ∙ ap (λ k. drop k name) len ∙ ap (λ b. cond b (drop (length text) name) []) (begins text name n split)

-- One that doesn't.
pub no_rest : (text name : List ℕ) → false ≡ starts_with (λ a b. a == b) name text → [] ≡ rest_of text name
no_rest text name lacks = ap (λ b. cond b (drop (length text) name) []) lacks

-- A rest that is there is the first.
pub rest_is : (rest : List ℕ) (other : Option (List ℕ)) → (length rest == 0) ≡ false → rest_or rest other ≡ Some rest
rest_is [] other some = absurd (true≢false some)
rest_is (b ∷ rest) other some = refl

-- One that isn't leaves the others.
pub rest_isnt : (rest : List ℕ) (other : Option (List ℕ)) → (length rest == 0) ≡ true → rest_or rest other ≡ other
rest_isnt [] other none = refl
rest_isnt (b ∷ rest) other none = let zero = eqb-true (length (b ∷ rest)) 0 none in absurd (omega (arith, zero))

-- The name at a place, and those behind it.
pub rest_at : (text : List ℕ) (names : List (Bor (List ℕ))) (i : ℕ) (name : Bor (List ℕ)) → i < length names → name ≡ get_or names i name
    → rest_among text (drop i names) ≡ rest_or (rest_of text name.now) (rest_among text (drop (i + 1) names))
rest_at text names i name lt is =
    at_drop_more (rest_among text) names i name lt ∙ ap (λ (x : Bor (List ℕ)). rest_or (rest_of text x.now) (rest_among text (drop (i + 1) names))) (sym is)

-- A text that isn't empty.
pub some_text : (text : List ℕ) (names : List (Bor (List ℕ))) → (length text == 0) ≡ false → rest_among text names ≡ first_rest text names
some_text [] names some = absurd (true≢false some)
some_text (b ∷ text) names some = refl

-- An empty text has none.
pub no_text : (text : List ℕ) (names : List (Bor (List ℕ))) → (length text == 0) ≡ true → None ≡ first_rest text names
no_text [] names none = refl
no_text (b ∷ text) names none = let zero = eqb-true (length (b ∷ text)) 0 none in absurd (omega (arith, zero))

-- What names that begin with a text have in common behind it, in characters.
abbrev pub all_common : List ℕ → List (Bor (List ℕ)) → Option (List ℕ)
all_common text names = common_to None (map (λ n. chars (rest_of text n)) (names_with text names))

-- What a text has in common with what was found, if something was.
abbrev pub shared : Option (List ℕ) → List ℕ → List ℕ
shared None text = text
shared (Some front) text = common front text

common_to_more : (found : Option (List ℕ)) (texts : List (List ℕ)) (text : List ℕ) → common_to found (texts ++ text ∷ []) ≡ Some (shared (common_to found texts) text)
common_to_more None [] text = refl
common_to_more (Some front) [] text = refl
common_to_more None (t ∷ texts) text = common_to_more (Some t) texts text
common_to_more (Some front) (t ∷ texts) text = common_to_more (Some (common front t)) texts text

-- Names with another one behind them.
module _ (text : List ℕ) (names : List (Bor (List ℕ))) (i : ℕ) (d : Bor (List ℕ)) (lt : i < length names) where
  abbrev name : List ℕ
  name = (get_or names i d).now

  one_more : names_with text (take (i + 1) names) ≡ names_with text (take i names) ++ filter (begins_with text) (name ∷ [])
  one_more =
      ap (names_with text) (take_more names i d lt) ∙ ap (filter (begins_with text)) (map-append (λ n. n.now) (take i names) (get_or names i d ∷ []))
      ∙ filter-append (begins_with text) (map (λ n. n.now) (take i names)) (name ∷ [])

  begins_so : true ≡ begins_with text name → names_with text (take i names) ++ name ∷ [] ≡ names_with text (take (i + 1) names)
  begins_so is = ap (λ b. names_with text (take i names) ++ cond b (name ∷ []) []) is ∙ sym one_more

  -- It begins so, or otherwise.
  pub with_name : (found : List (List ℕ)) → true ≡ begins_with text name → found ≡ names_with text (take i names) → found ++ name ∷ [] ≡ names_with text (take (i + 1) names)
  with_name found is so = ap (λ t. t ++ name ∷ []) so ∙ begins_so is

  pub without_name : false ≡ begins_with text name → names_with text (take i names) ≡ names_with text (take (i + 1) names)
  without_name isnt =
      sym (append-nil (names_with text (take i names))) ∙ ap (λ b. names_with text (take i names) ++ cond b (name ∷ []) []) isnt ∙ sym one_more

  -- What all have in common.
  shared_so : true ≡ begins_with text name → Some (shared (all_common text (take i names)) (chars (rest_of text name))) ≡ all_common text (take (i + 1) names)
  shared_so is =
      let f : List ℕ → List ℕ = λ n. chars (rest_of text n) in
      sym (common_to_more None (map f (names_with text (take i names))) (f name)) ∙ ap (common_to None) (sym (map-append f (names_with text (take i names)) (name ∷ [])))
      ∙ ap (λ ns. common_to None (map f ns)) (begins_so is)

  pub shared_with : (found : Option (List ℕ)) (rest : List ℕ) (n : ℕ) → found ≡ all_common text (take i names) → n ≡ length text → name ≡ text ++ drop n name → rest ≡ drop n name
      → Some (shared found (chars rest)) ≡ all_common text (take (i + 1) names)
  shared_with found rest n so len split is =
      ap (λ o. Some (shared o (chars rest))) so ∙ ap (λ t. Some (shared (all_common text (take i names)) (chars t))) (rest_behind text name rest n len split is)
      ∙ shared_so (begins text name n split)

  pub shared_without : false ≡ begins_with text name → all_common text (take i names) ≡ all_common text (take (i + 1) names)
  shared_without isnt = ap (λ ns. common_to None (map (λ n. chars (rest_of text n)) ns)) (without_name isnt)

-- A text, unless it is empty.
pub empty_text : (text : List ℕ) → (length text == 0) ≡ true → None ≡ text_unless_empty (Some (chars text))
empty_text [] none = ap (λ t. text_unless_empty (Some t)) (sym chars-nil)
empty_text (b ∷ text) none = let zero = eqb-true (length (b ∷ text)) 0 none in absurd (omega (arith, zero))

pub whole_text : (text : List ℕ) → IsUtf8 text → (length text == 0) ≡ false → Some text ≡ text_unless_empty (Some (chars text))
whole_text text u some = whole (chars text) refl
  where
    whole : (cs : List ℕ) → chars text ≡ cs → Some text ≡ text_unless_empty (Some (chars text))
    whole [] e =
        let none : text ≡ [] = sym (encodes-chars text u) ∙ ap encode_utf8_all e in
        absurd (true≢false (sym (ap (λ t. length t == 0) none) ∙ some))
    whole (c ∷ cs) e = ap Some (sym (encodes-chars text u) ∙ ap encode_utf8_all e) ∙ sym (ap (λ t. text_unless_empty (Some t)) e)
