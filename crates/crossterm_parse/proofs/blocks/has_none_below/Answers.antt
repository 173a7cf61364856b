use Rattle.std.proofs.Common.{ltb, sym, ◌∙◌, arith, w8}
use Rattle.std.proofs.lemmas.Bool.{eqb-true, ltb-false}
use Rattle.std.proofs.lemmas.Simd.{bitmask_splat, length-chunk, none_from_empty_mask}
use lib.Lanes.{chunk}
use Rattle.crossterm_parse.proofs.blocks.has_none_below.Goals as goal

pub returns : goal.returns
returns c none =
    let bytes = c.args.bytes.now in
    let v = chunk c.args.at 16 bytes in
    let mask = bitmask_splat w8 ltb v 16 c.args.first (length-chunk c.args.at 16 bytes c.requires) (omega arith) in
    λ k from to. ltb-false _ c.args.first (none_from_empty_mask (λ x. ltb x c.args.first) bytes c.args.at 16 0 c.requires (sym mask ∙ eqb-true _ 0 none) k from to)
