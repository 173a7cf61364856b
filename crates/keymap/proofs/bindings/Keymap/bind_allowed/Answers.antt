use Rattle.std.proofs.Common.{◌≡◌, ◌∷◌, ◌++◌, [], length, map, sym, ap, ◌∙◌, subst, arith}
use Rattle.std.proofs.lemmas.Grind.{common_steps}
use Rattle.keymap.specs.Bindings.{AreShort, bound_of, bind_refusal}
use Rattle.keymap.specs.inside.Bindings.{binding}
use Rattle.keymap.specs.inside.Places.{HasPlacesOf}
use Rattle.keymap.proofs.Kept.{allowed, same_count, short_more}
use Rattle.keymap.proofs.Placing.{bound_more}
use Rattle.keymap.proofs.bindings.Keymap.bind_allowed.Goals as goal

pub invariant_of-self : goal.invariant_of-self
invariant_of-self g c = (c.self.invariant.0, c.make_room.ensures.right_places _ c.self.invariant.1)

pub invariant_of-self-in_err-push : goal.invariant_of-self-in_err-push
invariant_of-self-in_err-push g c =
    subst (λ bs. AreShort (bound_of (map binding bs)) × HasPlacesOf (bound_of (map binding bs)) c.make_room.new.places) (sym c.in_err-push.ensures.items)
    (c.self.invariant.0, c.make_room.ensures.right_places _ c.self.invariant.1)

pub invariant_of-self-2 : goal.invariant_of-self-2
invariant_of-self-2 g c =
    let bs = c.self.inside.bindings.items in
    let bound = bound_of (map binding bs) in
    let b = c.in_ok-binding.binding in
    let chords = c.args.chords.now in
    let may = allowed bound chords (ap (λ m. bind_refusal (bound_of m) chords) c.self.view_is ∙ c.requires) in
    let own = c.in_ok-binding.ensures.0 in
    let same = same_count bs in
    let count : c.len-number.result ≡ length bound = grind (arith, common_steps, c.len-number.ensures, same) in
    let right = c.bind_in.ensures bound count may.1 (c.make_room.ensures.right_places bound c.self.invariant.1) in
    let more = ap (λ cs. bound ++ cs ∷ []) (sym own) ∙ bound_more bs b ∙ ap (λ items. bound_of (map binding items)) (sym c.in_ok-push.ensures.items) in
    subst (λ all. AreShort all × HasPlacesOf all c.bind_in.new.places) more (short_more bound chords c.self.invariant.0 may.0, right)
