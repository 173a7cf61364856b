-- How many columns a text takes.
use Rattle.std.proofs.Common.{◌≡◌, ℕ, ◌+◌, ◌<◌, ◌++◌, Bor, chars, min, map, List, [], ◌∷◌, length, take, get_or, sym, ap, ◌∙◌, arith}
use Rattle.std.proofs.lemmas.List.{map-append, take_more}
use Rattle.crossterm_style.specs.declared.styled_content.StyledContent.{StyledContent}
use Rattle.prompt.specs.Pictures.{most_columns, prompt_columns}
use Rattle.prompt.specs.Shown.{PromptRun, run_of}

-- A number for each element of a list, and their sum, up to a limit.
module _ {X : Type 0} (all : List X → ℕ) (one : X → ℕ) (none : all [] ≡ 0) (step : (x : X) (xs : List X) → all (x ∷ xs) ≡ one x + all xs) where
  both : (xs : List X) (y : X) → all (xs ++ y ∷ []) ≡ all xs + one y
  both [] y = step y [] ∙ ap (λ k. one y + k) none ∙ omega arith ∙ ap (λ k. k + one y) (sym none)
  both (x ∷ xs) y = step x (xs ++ y ∷ []) ∙ ap (λ k. one x + k) (both xs y) ∙ omega arith ∙ ap (λ k. k + one y) (sym (step x xs))

  -- One element more.
  pub one_more : (xs : List X) (n : ℕ) (x : X) → n < length xs → x ≡ get_or xs n x → min (min (all (take n xs)) 65535 + one x) 65535 ≡ min (all (take (n + 1) xs)) 65535
  one_more xs n x lt is =
      saturated (all (take n xs)) (one x) ∙ ap (λ k. min k 65535) (sym (ap all (take_more xs n x lt) ∙ both (take n xs) (get_or xs n x) ∙ ap (λ y. all (take n xs) + one y) (sym is)))
    where
      saturated : (s w : ℕ) → min (min s 65535 + w) 65535 ≡ min (s + w) 65535
      saturated s w = omega arith

-- A part of a prompt more.
pushed : (runs : List PromptRun) (r : PromptRun) → prompt_columns (runs ++ r ∷ []) ≡ min (prompt_columns runs + most_columns (chars r.text)) 65535
pushed [] r = omega arith
pushed (s ∷ runs) r = ap (λ k. min (most_columns (chars s.text) + k) 65535) (pushed runs r) ∙ omega arith

pub part_more : (prompt : List (StyledContent (Bor (List ℕ)))) (i : ℕ) (d : StyledContent (Bor (List ℕ))) → i < length prompt
    → min (prompt_columns (map run_of (take i prompt)) + most_columns (chars (run_of (get_or prompt i d)).text)) 65535 ≡ prompt_columns (map run_of (take (i + 1) prompt))
part_more prompt i d lt =
    sym (ap (λ (rs : List (StyledContent (Bor (List ℕ)))). prompt_columns (map run_of rs)) (take_more prompt i d lt)
    ∙ ap prompt_columns (map-append run_of (take i prompt) (get_or prompt i d ∷ [])) ∙ pushed (map run_of (take i prompt)) (run_of (get_or prompt i d)))
