-- How a frame is written: as one synchronized update, with no more moves and styles than its characters need.
use Rattle.std.specs.Prelude.{◌≡◌, ◌≢◌, ◌⊎◌, ℕ, ◌+◌, ◌*◌, ◌≤◌, ◌==◌, ◌&&◌, ◌||◌, not, Bool, false, List, [], ◌∷◌, ◌++◌, Option, Some, None, codes, if◌then◌else◌}
use Rattle.std.specs.List.{AllByRecursion}
use Rattle.crossterm_command.specs.Tokens.{Token}
use Rattle.crossterm_command.specs.Tokens.Token.{Char, Csi}
use Rattle.screen.specs.Cells.{Cell, is_covered, last_place}
use Rattle.screen.specs.Grids.{right_of}

-- ---- one update

-- SM of the mode 2026. What follows it is shown at once when the update ends.
abbrev pub begin_update : Token
begin_update = Csi (codes "?2026") [] 0x68

-- RM of the mode 2026, which ends an update.
abbrev pub end_update : Token
end_update = Csi (codes "?2026") [] 0x6C

-- The token neither begins an update nor ends one.
abbrev pub IsBetween : Token → Type 0
IsBetween t = (t ≢ begin_update) × (t ≢ end_update)

-- The tokens are one update: its beginning, tokens that neither begin nor end one, and its end.
abbrev pub IsOneUpdate : List Token → Type 0
IsOneUpdate ts = (within : List Token) × (ts ≡ begin_update ∷ (within ++ (end_update ∷ []))) × AllByRecursion IsBetween within

-- ---- counts of tokens

-- How many elements are of a kind.
abbrev pub how_many : {X : Type 0} → (X → Bool) → List X → ℕ
how_many kind [] = 0
how_many kind (x ∷ xs) = if kind x then how_many kind xs + 1 else how_many kind xs

-- Whether a token is CUP, which moves the cursor.
abbrev pub is_move : Token → Bool
is_move (Csi text [] final) = final == 0x48
is_move t = false

-- Whether a token is SGR, which sets the style.
abbrev pub is_style : Token → Bool
is_style (Csi text [] final) = final == 0x6D
is_style t = false

-- Whether a token is neither CUP nor SGR nor a character.
abbrev pub is_other : Token → Bool
is_other (Char c) = false
is_other t = not (is_move t || is_style t)

-- Whether the first token is SGR.
abbrev pub begins_with_style : List Token → Bool
begins_with_style [] = false
begins_with_style (t ∷ ts) = is_style t

-- How often the style is set: SGR right after SGR counts once.
abbrev pub changes : List Token → ℕ
changes [] = 0
changes (t ∷ ts) = if is_style t && not (begins_with_style ts) then changes ts + 1 else changes ts

-- ---- what has to be printed

-- The new cell isn't covered and differs from the old one, so that its character has to be printed.
abbrev pub HasToBePrinted : Cell → Cell → Type 0
HasToBePrinted before after = (is_covered after ≡ false) × (before ≢ after)

-- A cell and its place, which is the number of cells before it.
pub record Placed : Type 0 where
  pub at : ℕ
  pub cell : Cell

-- Both lists have the same length, and `xs` are the new cells that have to be printed, with places counted from `at`
-- on.
abbrev pub ArePrinted : ℕ → List Cell → List Cell → List Placed → Type 0
ArePrinted at [] [] xs = xs ≡ []
ArePrinted at (a ∷ before) (b ∷ after) xs =
    ((HasToBePrinted a b → ⊥) × ArePrinted (at + 1) before after xs)
    ⊎ (HasToBePrinted a b × (ys : List Placed) × (xs ≡ record { at = at; cell = b } ∷ ys) × ArePrinted (at + 1) before after ys)
ArePrinted at before after xs = ⊥

-- `n` runs begin in the list. An element begins one unless it is related to the one before it, or, if it is the first,
-- `S` holds for it.
abbrev pub HasRunsFrom : {X : Type 0} → (X → Type 0) → (X → X → Type 0) → List X → ℕ → Type 0
HasRunsFrom S R [] n = n ≡ 0
HasRunsFrom S R (x ∷ xs) n = (S x × HasRunsFrom (R x) R xs n) ⊎ ((S x → ⊥) × (m : ℕ) × (n ≡ m + 1) × HasRunsFrom (R x) R xs m)

-- The list has `n` runs. Within a run each element is related to the next, and between two runs it isn't.
abbrev pub HasRuns : {X : Type 0} → (X → X → Type 0) → List X → ℕ → Type 0
HasRuns R xs n = HasRunsFrom (λ x. ⊥) R xs n

-- The second character is right behind the first one, in the same row.
abbrev pub IsBeside : ℕ → Placed → Placed → Type 0
IsBeside width x y = right_of width (last_place x.at x.cell) ≡ Some y.at

-- Both characters have the same style.
abbrev pub HasSameStyle : Placed → Placed → Type 0
HasSameStyle x y = x.cell.style ≡ y.cell.style

-- ---- what a frame needs

-- How many moves the end of a frame may have: one if the cursor is to be shown at a place, otherwise none.
abbrev pub end_moves : Option (ℕ × ℕ) → ℕ
end_moves None = 0
end_moves (Some place) = 1

-- How many styles the ends of a frame may set: the empty one at its end, and before an erasure if the cells aren't
-- known.
abbrev pub end_styles : Bool → ℕ
end_styles known = if known then 1 else 2

-- How many other control functions the ends of a frame may have: three, or four with an erasure if the cells aren't
-- known.
abbrev pub end_others : Bool → ℕ
end_others known = if known then 3 else 4

-- The most SGR that set a style: a reset, three colours and 28 attributes.
abbrev pub longest_style : ℕ
longest_style = 32

-- The tokens have few moves and styles. `known` is whether the cells `before` are known to be on the terminal. `again`
-- is how many characters are printed that are shown already.
pub record IsSparing (known : Bool) (width : ℕ) (before after : List Cell) (cursor : Option (ℕ × ℕ)) (again : ℕ) (ts : List Token) : Type 0 where
  -- The characters that have to be printed, with their places.
  pub all : List Placed
  pub printed : ArePrinted 0 before after all
  -- Beside those at the frame's ends, one move at most for each run of characters side by side. In place of each move
  -- that is saved, at most three characters are printed that are shown already.
  pub moves : (n : ℕ) × (saved : ℕ) × HasRuns (IsBeside width) all n × (again ≤ 3 * saved) × (how_many is_move ts + saved ≤ n + end_moves cursor)
  -- Beside those at the frame's ends, one style at most for each run of characters in one style. There are at most 32
  -- SGR for each.
  pub styles : (n : ℕ) × HasRuns HasSameStyle all n × (changes ts ≤ n + end_styles known) × (how_many is_style ts ≤ longest_style * (n + end_styles known))
  -- No other control functions than those at the frame's ends.
  pub others : how_many is_other ts ≤ end_others known
