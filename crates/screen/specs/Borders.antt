-- Borders of rectangles.
use Rattle.std.specs.Prelude.{ℕ, ◌+◌, ◌-◌, ◌&&◌, nat_le, List, [], ◌∷◌, ◌++◌, Option, Some, None, if◌then◌else◌, map}
use Rattle.std.specs.List.{range_with_len}
use Rattle.crossterm_style.specs.declared.content_style.ContentStyle.{ContentStyle}
use Rattle.screen.specs.declared.borders.Border.{Border}
use Rattle.screen.specs.declared.faults.CellFault.{CellFault}
use Rattle.screen.specs.declared.faults.CellFault.TheVariants.{Outside, TooSmall}
use Rattle.screen.specs.declared.rects.Rect.{Rect}
use Rattle.screen.specs.Buffers.{Picture, with_symbol}
use Rattle.screen.specs.Texts.{replacement_fault}

-- A character at a column and a row.
pub record Stamp : Type 0 where
  pub column : ℕ
  pub row : ℕ
  pub symbol : ℕ

-- The picture after these characters are set one after another, all in this style.
abbrev pub with_stamps : Picture → ContentStyle → List Stamp → Picture
with_stamps p s [] = p
with_stamps p s (x ∷ xs) = with_stamps (with_symbol p x.column x.row x.symbol s) s xs

-- A character `n` times side by side, from this column and row to the right.
abbrev pub across : ℕ → ℕ → ℕ → ℕ → List Stamp
across column row n symbol = map (λ k. record { column = column + k; row = row; symbol = symbol }) (range_with_len 0 n)

-- A character `n` times one below the other, from this column and row downwards.
abbrev pub down : ℕ → ℕ → ℕ → ℕ → List Stamp
down column row n symbol = map (λ k. record { column = column; row = row + k; symbol = symbol }) (range_with_len 0 n)

-- The last column of a rectangle, or `x` if its width is 0.
abbrev pub right : Rect → ℕ
right r = r.x + (r.width - 1)

-- The last row of a rectangle, or `y` if its height is 0.
abbrev pub bottom : Rect → ℕ
bottom r = r.y + (r.height - 1)

-- The four corner characters of a border at the corners of a rectangle.
abbrev pub corners : Rect → Border → List Stamp
corners r b =
    record { column = r.x; row = r.y; symbol = b.top_left } ∷ record { column = right r; row = r.y; symbol = b.top_right }
    ∷ record { column = r.x; row = bottom r; symbol = b.bottom_left } ∷ record { column = right r; row = bottom r; symbol = b.bottom_right } ∷ []

-- The lines of a border between its corners: top, bottom, left and right.
abbrev pub sides : Rect → Border → List Stamp
sides r b =
    across (r.x + 1) r.y (r.width - 2) b.horizontal ++ (across (r.x + 1) (bottom r) (r.width - 2) b.horizontal
    ++ (down r.x (r.y + 1) (r.height - 2) b.vertical ++ down (right r) (r.y + 1) (r.height - 2) b.vertical))

-- The picture with a border in the first and last columns and rows of a rectangle: first its corners, then its sides.
abbrev pub with_border : Picture → Rect → Border → ContentStyle → Picture
with_border p r b s = with_stamps p s (corners r b ++ sides r b)

-- The fault of the first character that doesn't take exactly one column, or `None` if each takes one.
abbrev pub symbols_fault : List ℕ → Option CellFault
symbols_fault [] = None
symbols_fault (c ∷ cs) = elim (replacement_fault c) [ Some fault ↦ Some fault | None ↦ symbols_fault cs ]

-- The fault of the first of a border's six characters that doesn't take exactly one column, or `None` if each takes
-- one.
abbrev pub border_fault : Border → Option CellFault
border_fault b = symbols_fault (b.top_left ∷ b.top_right ∷ b.bottom_left ∷ b.bottom_right ∷ b.horizontal ∷ b.vertical ∷ [])

-- `Outside` if the rectangle isn't inside the picture, `TooSmall` below two columns or two rows, otherwise the fault
-- of the characters, if any.
abbrev pub border_refusal : Picture → Rect → Border → Option CellFault
border_refusal p r b =
    if nat_le (r.x + r.width) p.width && nat_le (r.y + r.height) p.height then (if nat_le 2 r.width && nat_le 2 r.height then border_fault b else Some TooSmall)
    else Some Outside
