-- Rectangles of columns and rows.
use Rattle.std.specs.Prelude.{ℕ, ◌⊎◌, ◌+◌, ◌-◌, ◌*◌, ◌<◌, ◌≤◌, ◌&&◌, nat_lt, if◌then◌else◌}
use Rattle.screen.specs.declared.rects.Rect.{Rect}

-- The rectangle has this column and this row.
abbrev pub Has : Rect → ℕ → ℕ → Type 0
Has r column row = ((r.x ≤ column) × (column < r.x + r.width)) × ((r.y ≤ row) × (row < r.y + r.height))

-- The rectangle has this column and row, and `horizontal` more columns and `vertical` more rows on each side of them.
abbrev pub HasWithin : Rect → ℕ → ℕ → ℕ → ℕ → Type 0
HasWithin r horizontal vertical column row =
    ((r.x + horizontal ≤ column) × (column + horizontal < r.x + r.width)) × ((r.y + vertical ≤ row) × (row + vertical < r.y + r.height))

-- One of two rectangles has this column and row, and the other one hasn't.
abbrev pub OneHas : Rect → Rect → ℕ → ℕ → Type 0
OneHas r q column row = (Has r column row × (Has q column row → ⊥)) ⊎ (Has q column row × (Has r column row → ⊥))

-- The larger of two numbers.
abbrev larger : ℕ → ℕ → ℕ
larger a b = if nat_lt a b then b else a

-- The smaller of two numbers.
abbrev smaller : ℕ → ℕ → ℕ
smaller a b = if nat_lt a b then a else b

-- What two spans have in common, from the later start to the earlier end. A span is its first column or row and their
-- number.
abbrev pub shared : ℕ × ℕ → ℕ × ℕ → ℕ × ℕ
shared one other = (larger one.0 other.0, smaller (one.0 + one.1) (other.0 + other.1) - larger one.0 other.0)

-- A span without a margin at both ends. It is empty if the margins take it all or it would begin behind 65535.
abbrev pub inner : ℕ × ℕ → ℕ → ℕ × ℕ
inner span margin = if nat_lt (margin * 2) span.1 && nat_lt (span.0 + margin) 65536 then (span.0 + margin, span.1 - margin * 2) else (span.0, 0)

-- The first `n` columns or rows of a span, or all of them if it has fewer.
abbrev pub front : ℕ × ℕ → ℕ → ℕ × ℕ
front span n = (span.0, smaller n span.1)

-- A span without its first `n` columns or rows. It is empty if it would begin behind 65535.
abbrev pub rest : ℕ × ℕ → ℕ → ℕ × ℕ
rest span n = if nat_lt (span.0 + smaller n span.1) 65536 then (span.0 + smaller n span.1, span.1 - n) else (span.0, 0)
