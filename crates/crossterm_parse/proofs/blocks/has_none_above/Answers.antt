use Rattle.std.proofs.Common.{ap, Bool, ℕ, length, ltb, map, replicate, sym, ◌%◌, ◌^◌, ◌∙◌, arith, w8}
use Rattle.std.proofs.lemmas.Bool.{eqb-true, ltb-false}
use Rattle.std.proofs.lemmas.List.{length-map}
use Rattle.std.proofs.lemmas.Simd.{length-chunk, mask_l-mod, none_from_empty_mask, tops_compared, zip2_splat_left}
use lib.Lanes.{chunk, mask_l}
use Rattle.crossterm_parse.proofs.blocks.has_none_above.Goals as goal

pub returns : goal.returns
returns c none =
    let bytes = c.args.bytes.now in
    let v = chunk c.args.at 16 bytes in
    let above : ℕ → Bool = λ x. ltb c.args.last x in
    let long = length-chunk c.args.at 16 bytes c.requires in
    let lanes = ap (λ ms. mask_l ms % 2 ^ 64) (tops_compared w8 ltb (replicate 16 c.args.last) v ∙ zip2_splat_left ltb c.args.last 16 v long) in
    let mask = lanes ∙ mask_l-mod (map above v) 64 (omega (arith, long, length-map v above)) in
    λ k from to. ltb-false c.args.last _ (none_from_empty_mask above bytes c.args.at 16 0 c.requires (sym mask ∙ eqb-true _ 0 none) k from to)
