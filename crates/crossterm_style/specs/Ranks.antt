-- The declared orders of colours: by the rank of the variant, and for two values of one variant by what they hold.
use Rattle.std.specs.Prelude.{ℕ, map}
use Rattle.std.specs.Ordering.{nat_cmp, on, ordering_then, then_cmp}
use Rattle.std.specs.declared.cmp.Ordering.{Ordering}
use Rattle.std.specs.declared.cmp.Ordering.TheVariants.{Equal}
use Rattle.crossterm_flags.specs.Variants.{place_in}
use Rattle.crossterm_style.specs.ColorNames.{names}
use Rattle.crossterm_style.specs.contracts.types.color.ColorPartialEq.TheImpl as color_eq
use Rattle.crossterm_style.specs.declared.types.color.Color.{Color}
use Rattle.crossterm_style.specs.declared.types.color.Color.TheVariants as color
use Rattle.crossterm_style.specs.declared.types.colored.Colored.{Colored}
use Rattle.crossterm_style.specs.declared.types.colored.Colored.TheVariants as colored

-- The rank of a colour: its place among the names, beginning with the terminal's own. `Rgb` is 17, and `AnsiValue` is
-- 18.
abbrev pub color_rank : Color → ℕ
color_rank (color.Rgb r g b) = 17
color_rank (color.AnsiValue place) = 18
color_rank named = place_in color_eq.ghosts.eq (map (λ row. row.1) names) named

-- The order of two colours of one rank: by red, green and blue, or by the number in the palette.
abbrev pub color_holds : Color → Color → Ordering
color_holds (color.Rgb a b c) (color.Rgb d e f) = ordering_then (nat_cmp a d) (ordering_then (nat_cmp b e) (nat_cmp c f))
color_holds (color.AnsiValue m) (color.AnsiValue n) = nat_cmp m n
color_holds _ _ = Equal

-- The order of colours: by rank, and then by what they hold.
abbrev pub color_order : Color → Color → Ordering
color_order = then_cmp (on color_rank nat_cmp) color_holds

-- The rank of a colour's place: foreground, background, underline.
abbrev pub colored_rank : Colored → ℕ
colored_rank (colored.ForegroundColor c) = 0
colored_rank (colored.BackgroundColor c) = 1
colored_rank (colored.UnderlineColor c) = 2

-- The order of two colours at the same place.
abbrev pub colored_holds : Colored → Colored → Ordering
colored_holds (colored.ForegroundColor c) (colored.ForegroundColor d) = color_order c d
colored_holds (colored.BackgroundColor c) (colored.BackgroundColor d) = color_order c d
colored_holds (colored.UnderlineColor c) (colored.UnderlineColor d) = color_order c d
colored_holds _ _ = Equal

-- The order of colours at their places: by place, and then by the colour.
abbrev pub colored_order : Colored → Colored → Ordering
colored_order = then_cmp (on colored_rank nat_cmp) colored_holds
