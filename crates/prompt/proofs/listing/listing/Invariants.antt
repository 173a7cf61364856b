-- What is listed, and what is still to be listed.
use Rattle.std.proofs.Common.{◌≡◌, ◌++◌, drop, map, string_bytes}
use Rattle.prompt.specs.Shown.{in_columns, listing}
use Rattle.prompt.proofs.listing.listing.Given as goal

abbrev pub invariant-loop-place : goal.invariant-loop-place
invariant-loop-place l =
    listing l.width (map (λ n. n.now) l.names) ≡ string_bytes l.text ++ in_columns l.count l.columns l.place l.gap (map (λ n. n.now) (drop l.place l.names))
