-- Cells that are the same are passed over, and those that differ are copied.
use Rattle.std.proofs.Common.{◌≡◌, ◌⊎◌, ℕ, zero, suc, ◌+◌, ◌-◌, ◌<◌, ◌≤◌, true, false, if◌then◌else◌, List, Option, set, length, take, get_or, refl, sym, ap, ◌∙◌, subst, arith, inl, inr}
use Rattle.std.proofs.lemmas.Bool.{cases_lt}
use Rattle.std.proofs.lemmas.List.{ext_get_or, get_or-set_other, get_or_default, length-set}
use Rattle.std.proofs.lemmas.Grind.{get_or-set_at}
use Rattle.crossterm_style.specs.declared.content_style.ContentStyle.{ContentStyle}
use Rattle.screen.specs.declared.starts.Start.{Start}
use Rattle.screen.specs.declared.strokes.Stroke.{Stroke}
use Rattle.screen.specs.Cells.{ArePaired, Cell, blank, is_covered, is_wide, last_place}
use Rattle.screen.specs.Updates.{HasToBePrinted}
use Rattle.screen.specs.inside.Scans.{Counts, ReachesPlace, Sparing}
use Rattle.screen.proofs.Scans.{keeps, keeps_counted}
use Rattle.screen.proofs.Squares.{second_covered}
use Rattle.screen.proofs.Spares.{spares_kept}

-- ---- the cells

-- From a place up to another one the cells are the same.
abbrev pub AreSame : List Cell → List Cell → ℕ → ℕ → Type 0
AreSame before after from to = (k : ℕ) → from ≤ k → k < to → get_or before k blank ≡ get_or after k blank

-- Cells up to a place are the new ones, and the others are the old ones.
pub record AreCopied (before after cells : List Cell) (at : ℕ) : Type 0 where
  pub long : length cells ≡ length after
  pub front : (k : ℕ) → k < at → get_or cells k blank ≡ get_or after k blank
  pub rest : (k : ℕ) → at ≤ k → get_or cells k blank ≡ get_or before k blank

pub copied_start : (before after : List Cell) → length before ≡ length after → AreCopied before after before 0
copied_start before after l = record { long = l; front = λ k lt. absurd (omega (arith, lt)); rest = λ k le. refl }

pub copied_more : (before after cells : List Cell) (at to : ℕ) → AreCopied before after cells at → at ≤ to → AreSame cells after at to → AreCopied before after cells to
copied_more before after cells at to c le same = record {
  long = c.long;
  front = λ k lt. elim (cases_lt k at) [ inl below ↦ c.front k below | inr from ↦ same k from lt ];
  rest = λ k from. c.rest k (omega (arith, le, from));
}

pub copied_one : (before after cells : List Cell) (at : ℕ) (c : Cell) → AreCopied before after cells at → at < length after → get_or after at c ≡ c → AreCopied before after (set cells at c) (at + 1)
copied_one before after cells at c old lt is = record {
  long = length-set cells at c ∙ old.long;
  front = λ k below. elim (cases_lt k at) [
    | inl less ↦ get_or-set_other cells at k c blank (λ e. omega (arith, e, less)) ∙ old.front k less
    | inr from ↦
        let here : k ≡ at = omega (arith, below, from) in
        get_or-set_at cells at k c blank here (omega (arith, lt, old.long)) ∙ sym is ∙ get_or_default after at c blank lt ∙ sym (ap (λ n. get_or after n blank) here)
  ];
  rest = λ k from. get_or-set_other cells at k c blank (λ e. omega (arith, e, from)) ∙ old.rest k (omega (arith, from));
}

pub copied_same : (before after cells : List Cell) (at to : ℕ) → AreCopied before after cells at → AreSame cells after at to → AreSame before after at to
copied_same before after cells at to c same k from below = sym (c.rest k from) ∙ same k from below

pub copied_all : (before after cells : List Cell) (at : ℕ) → AreCopied before after cells at → length after ≤ at → cells ≡ after
copied_all before after cells at c le = ext_get_or blank cells after c.long (λ k lt. c.front k (omega (arith, lt, le, c.long)))

-- ---- the second cell of a character

pub last_from : (k : ℕ) (c : Cell) → k ≤ last_place k c
last_from k c = elim (is_wide c) as (λ b. k ≤ (if b then k + 1 else k)) [ true ↦ omega arith | false ↦ omega arith ]

-- After a character is copied with its second cell, the cells up to its last place are the new ones.
pub copied_second : (before after cells new : List Cell) (k last : ℕ) → AreCopied before after cells (k + 1) → length new ≡ length after → k ≤ last
    → ((j : ℕ) → k < j → j ≤ last → get_or new j blank ≡ get_or after j blank) → ((j : ℕ) → (j ≤ k) ⊎ (last < j) → get_or new j blank ≡ get_or cells j blank) → AreCopied before after new (last + 1)
copied_second before after cells new k last c long le copied others = record {
  long = long;
  front = λ j lt. elim (cases_lt k j) [ inl above ↦ copied j above (omega (arith, lt)) | inr low ↦ others j (inl low) ∙ c.front j (omega (arith, low)) ];
  rest = λ j from. others j (inr (omega (arith, from))) ∙ c.rest j (omega (arith, from, le));
}

-- ---- the strokes

-- What the strokes have done before a place.
pub record Stage (known : Start) (width height : ℕ) (before after : List Cell) (strokes : List Stroke) (cursor : Option ℕ) (style : Option ContentStyle) (at : ℕ) : Type 0 where
  pub reached : ReachesPlace known width height before after at cursor style strokes
  pub again : ℕ
  pub counted : Counts before after at again strokes
  pub sparing : Sparing known width (take at before) (take at after) again cursor style strokes

-- Nothing has to be done for a cell that is the same, or is covered: that is there with the one before.
skipped : (known : Start) (width height : ℕ) (before after : List Cell) (strokes : List Stroke) (cursor : Option ℕ) (style : Option ContentStyle) (k : ℕ)
    → ArePaired false before → ArePaired false after → k < length before → k < length after → (is_covered (get_or after k blank) ≡ false → get_or before k blank ≡ get_or after k blank)
    → Stage known width height before after strokes cursor style k → Stage known width height before after strokes cursor style (k + 1)
skipped known width height before after strokes cursor style k pb pa lb la same s =
    let b = get_or before k blank in
    let c = get_or after k blank in
    let eb : get_or before k b ≡ b = get_or_default before k b blank lb in
    let ec : get_or after k c ≡ c = get_or_default after k c blank la in
    let none : HasToBePrinted b c → ⊥ = λ p. p.1 (same p.0) in
    record {
      reached = keeps known k width height before after cursor style strokes b c lb la eb ec same pb pa s.reached;
      again = s.again;
      counted = keeps_counted before after k s.again strokes b c lb la eb ec none s.counted;
      sparing = spares_kept known width before after k s.again cursor style strokes b c lb la eb ec none s.sparing;
    }

pub stage_covered : (known : Start) (width height : ℕ) (before after : List Cell) (strokes : List Stroke) (cursor : Option ℕ) (style : Option ContentStyle) (k : ℕ)
    → ArePaired false before → ArePaired false after → length before ≡ length after → k < length after → is_covered (get_or after k blank) ≡ true
    → Stage known width height before after strokes cursor style k → Stage known width height before after strokes cursor style (k + 1)
stage_covered known width height before after strokes cursor style k pb pa l la covered s =
    skipped known width height before after strokes cursor style k pb pa (omega (arith, l, la)) la (λ e. let no : true ≡ false = sym covered ∙ e in cc) s

-- Nor for the second cell of a character, if it has one.
pub stage_second : (known : Start) (width height : ℕ) (before after : List Cell) (strokes : List Stroke) (cursor : Option ℕ) (style : Option ContentStyle) (k last : ℕ)
    → ArePaired false before → ArePaired false after → length before ≡ length after → k < length after → last < length after → last ≡ last_place k (get_or after k blank)
    → Stage known width height before after strokes cursor style (k + 1) → Stage known width height before after strokes cursor style (last + 1)
stage_second known width height before after strokes cursor style k last pb pa l la bound is s =
    let c = get_or after k blank in
    elim (is_wide c) as (λ b. is_wide c ≡ b → last ≡ (if b then k + 1 else k) → Stage known width height before after strokes cursor style (last + 1)) [
      | true ↦ λ wide e.
          let there : k + 1 < length after = omega (arith, bound, e) in
          subst (λ n. Stage known width height before after strokes cursor style (n + 1)) (sym e)
          (stage_covered known width height before after strokes cursor style (k + 1) pb pa l there (second_covered after k pa la ∙ wide) s)
      | false ↦ λ wide e. subst (λ n. Stage known width height before after strokes cursor style (n + 1)) (sym e) s
    ] refl is

-- Nor for several cells that are the same.
skipped_all : (n : ℕ) (known : Start) (width height : ℕ) (before after : List Cell) (strokes : List Stroke) (cursor : Option ℕ) (style : Option ContentStyle) (k : ℕ)
    → ArePaired false before → ArePaired false after → length before ≡ length after → k + n ≤ length after → AreSame before after k (k + n)
    → Stage known width height before after strokes cursor style k → Stage known width height before after strokes cursor style (k + n)
skipped_all zero known width height before after strokes cursor style k pb pa l le same s =
    let none : k ≡ k + 0 = omega arith in
    subst (Stage known width height before after strokes cursor style) none s
skipped_all (suc n) known width height before after strokes cursor style k pb pa l le same s =
    let more : k + 1 + n ≡ k + suc n = omega arith in
    let first = skipped known width height before after strokes cursor style k pb pa (omega (arith, l, le)) (omega (arith, le)) (λ cv. same k (omega arith) (omega arith)) s in
    subst (Stage known width height before after strokes cursor style) more
    (skipped_all n known width height before after strokes cursor style (k + 1) pb pa l (omega (arith, le)) (λ j from below. same j (omega (arith, from)) (omega (arith, below))) first)

pub stage_skipped : (known : Start) (width height : ℕ) (before after : List Cell) (strokes : List Stroke) (cursor : Option ℕ) (style : Option ContentStyle) (k to : ℕ)
    → ArePaired false before → ArePaired false after → length before ≡ length after → k ≤ to → to ≤ length after → AreSame before after k to
    → Stage known width height before after strokes cursor style k → Stage known width height before after strokes cursor style to
stage_skipped known width height before after strokes cursor style k to pb pa l le bound same s =
    let n = to - k in
    let sum : k + n ≡ to = omega (arith, le) in
    subst (Stage known width height before after strokes cursor style) sum
    (skipped_all n known width height before after strokes cursor style k pb pa l (omega (arith, sum, bound)) (λ j from below. same j from (omega (arith, below, sum))) s)
