-- A handle of C's: a struct of one pointer, which owns a box. The walks of its two functions, once for all kinds.
use Rattle.std.proofs.Common.{◌≡◌, ℕ, List, [], ◌∷◌, ◌++◌, refl, sym, ap, ◌∙◌, subst, MutBor, T}
use Rattle.std.proofs.raw_atomic.Walks.{proved, proved_at}
use seplogic.Ra.Ura.{Ura}
use base.Fraction.{full_share}
use base.Stored.{Coded}
use base.Logic.{SProp, ent, sep, emp, never, fst∗, id⊢}
use base.Fml.{Fml, Lft, GName, ftrue, fsep, flft}
use mir.Syntax.{Sym, Ty, Fn, Callee, named, mut, erased, ty_ptr, ty_ref, ty_struct, tcons, tnil, dnil, impl, local, value_local, place, deref, field, copy, rv_opd, addr_of, aggregate, seq, assign, block, return}
use mir.Raw.{raw as bare}
use mir.Val.{Val, vptr, vstruct, vcons, vnil, of_list, has_ty, WT}
use prog.Model.{Model}
use prog.Wp.{WpFn, Closed}
use contract.Monad.{fact}
use contract.Running.{Running, tables}
use types.Logic.{Logic, sem}
use types.Kit.{‵, raw, ◌⊛◌, some, later, at_ret, ◌$◌, ◌∵◌, !, qed, move, keep, drop, use1, split, join, pick, fsplit, fsplit3, fjoin, fpack, fpick, feq_i, feq_l, rewrite, suffices, frame, group, done, await}
use types.Run.{stop, fld, addr, load, of_opd, no_more, and_then, first, blocks, exec, returns, enter}
use types.ByLocal.{alloc_all, pass_all, free_all, look_at, get, get_in, through, sets, sets_last, env}
use types.Part.{whole, sub, look_in, agg}
use denote.Builtin.{RawPtr}
use denote.Exit.{hidden, under, yes, no}
use denote.Laws.{shows}
use denote.Memory.{part_at, part_of, cell_at, mem, lone}
use denote.Param.{layout}
use denote.RattleType.{RattleType, Valss}
use denote.Ref.{MutRef, mut_vals, mut_Tells}
use denote.RawPtr.{Ptr, block_ptr, null_ptr, ptr_val, in_a_block}
use denote.Follow.{follows, Part, lends_Part}
use denote.Signature.{plain, mut_ref_to}
use denote.Steps.{nothing, opens, peeks}
use denote.Struct.Field.{RawPtr-field, rows}
use denote.Struct.Values.{intos}
use denote.Struct.Laws.{RawPtr-laws}
use denote.Struct.Owning as owning
use denote.Struct.OwningLaws as owning_laws
use denote.Struct.Struct.{Struct, within, exits_of}
use denote.Triple.Clauses.{Ended, Clauses, closing}
use denote.Triple.Spec.{Meets}
use denote.Triple.Walked.{Stays, stay_dropped, walk_of, says, Goes-dropped, Goes-spent_ref, ends_at}
use Rattle.std.specs.Box.Ownership.{box_owns}
use Rattle.std.specs.contracts.alloc.Global as heap
use Rattle.std.proofs.alloc.Global.TheLaws as heap_laws
use Rattle.std.specs.contracts.impls.GlobalAllocator.TheImpl.{ghosts, dict}
use Rattle.std.proofs.alloc.Calls.{Al, handle_tells}
use Rattle.std.proofs.ResultValues.{and_tt}
use Rattle.std.proofs.VecSteps.Shapes.{after}
use Rattle.std.specs.Prelude.{Option, Some}
use Rattle.handle.specs.Held.{may_free, slot_owns}
use Rattle.handle.specs.contracts.parts.Parts as parts

-- a kind of handle: what is kept, with its laws; the struct's values, its pointer, its ghost field, and that field changed; the rest as the struct's module has it
pub record Kind : Type 2 where
  pub kept : RattleType
  pub name : Sym
  pub D : Type 0
  pub at : D → Ptr
  pub value : D → kept.Denot
  pub set : D → kept.Denot → D
  pub same_at : (h : D) (w : kept.Denot) → at (set h w) ≡ at h
  pub new_value : (h : D) (w : kept.Denot) → value (set h w) ≡ w
  pub coded : Coded D
  pub shr_at : D → ℕ → ℕ → Lft → Fml

module _ (N : Kind) where
  abbrev pub the_type : owning.Owning
  the_type = record {
    name = N.name;
    args = [];
    types = [];
    parts = RawPtr-field ∷ [];
    D = N.D;
    as_values = λ d. (N.at d, tt);
    coded = N.coded;
    heap = λ d. box_owns may_free N.kept (N.at d) (N.value d);
    exit = λ k. hidden (under (λ d. intos (RawPtr-field ∷ []) (N.at d, tt)) (exits_of k (rows (RawPtr-field ∷ []))));
    shr_at = N.shr_at;
  }

  abbrev pub R : RattleType
  R = owning.row the_type

  abbrev K : RattleType
  K = N.kept

  abbrev pub laid : Ty
  laid = ty_struct N.name (tcons ty_ptr tnil)

  abbrev fields : N.D → List Val → Fml
  fields h us = (Struct (owning.shape the_type)).own_val (owning.to the_type h) us

  is_word : (h : N.D) (us : List Val) {b o : ℕ} → N.at h ≡ block_ptr b o → denote.Laws.Is R h us → us ≡ vstruct (vcons (vptr b o) vnil) ∷ []
  is_word h us e is = owning_laws.Tells-lowered the_type (RawPtr-laws, tt) h us is ∙ ap (λ (p : Ptr). vstruct (vcons (ptr_val p) vnil) ∷ []) e

  -- `unsafe { &mut *(self.at as *mut T) }`, with the two types as the code names them behind a `&mut`
  abbrev pub open_code : Ty → Ty → Fn
  open_code k h = record {
    lifetimes = 1;
    outlives = [];
    ty_params = [];
    givens = 0;
    params = 1;
    locals = local (ty_ref (named 0) mut k) value_local ∷ local (ty_ref (named 0) mut h) value_local ∷ local (ty_ref erased mut k) value_local ∷ local ty_ptr value_local ∷ local ty_ptr value_local ∷ [];
    body = seq (block (seq (assign (place 3 []) (rv_opd (copy (place 1 (deref laid ∷ field 0 ∷ [])))))
        (seq (assign (place 4 []) (rv_opd (copy (place 3 [])))) (assign (place 2 []) (addr_of (place 4 (deref (layout K) ∷ [])))))))
        (seq (assign (place 0 []) (rv_opd (copy (place 2 [])))) return);
  }

  abbrev pub open_ended : Ended
  open_ended = record { signature = record { lifetimes = 1; outlives = []; params = mut_ref_to (0 ∷ []) tt (plain (λ _. R)) ∷ []; result = mut_ref_to (0 ∷ []) tt (plain (λ _. K)) }; kept = (no, tt) }

  abbrev pub open_spec : {M : Type 1} {𝓤 : Ura M} (𝓛 : Logic 𝓤) → Clauses 𝓤 open_ended
  open_spec {𝓤 = 𝓤} 𝓛 κs a = record { ghost = Unit {0}; requires = λ _. emp 𝓤; ensures = λ _ r _. sep 𝓤 (sem 𝓛 (follows R K a.0.ghost_name r.ghost_name (N.set a.0.now))) (fact 𝓤 (r.now ≡ N.value a.0.now)) }

  abbrev open_stayed : Stays open_ended.signature.params open_ended.kept
  open_stayed = (stay_dropped (mut_ref_to (0 ∷ []) tt (plain (λ _. R))) no, tt)

  module _ {M : Type 1} {𝓤 : Ura M} (𝓛 : Logic 𝓤) (h : N.D) (rb ro b o : ℕ) (us : List Val) where
    -- all of the handle but its value
    abbrev Rest : Fml
    Rest = fsep (may_free (bare (lone K.mir)) (block_ptr b o)) (fsep (fields h us) (cell_at full_share R.mir us rb ro))

    back : N.at h ≡ block_ptr b o → (w : K.Denot) → ent 𝓤 (sep 𝓤 (sem 𝓛 ((mem K).own_at w b o)) (sem 𝓛 Rest)) (sem 𝓛 ((mem R).own_at (N.set h w) rb ro))
    unfolding part_of
    back e w =
        qed 𝓛 (‵ (part_at K full_share w b o) ∷ ‵ Rest ∷ []) ∵ move ! (1 ∷ []) $ fsplit ! $ move ! (1 ∷ []) $ fsplit ! $
        rewrite ! 0 (λ (p : Ptr). ‵ ((Struct (owning.shape the_type)).own_val (p, tt) us)) (sym (N.same_at h w)) refl $ move ! (3 ∷ 2 ∷ []) $ fjoin ! $
        rewrite ! 0 (λ (p : Ptr). ‵ (box_owns may_free K p w)) (sym (N.same_at h w ∙ e)) refl $ rewrite ! 0 (λ (x : K.Denot). ‵ (box_owns may_free K (N.at (N.set h w)) x)) (sym (N.new_value h w)) refl $
        move ! (1 ∷ 0 ∷ []) $ fjoin ! $ move ! (1 ∷ 0 ∷ []) $ fjoin ! $
        fpack ! (List Val) (λ ws. fsep (cell_at full_share R.mir ws rb ro) (R.own_val (N.set h w) ws)) us $ done !

  pub open_meets : (k t : Ty) {M : Type 1} {𝓤 : Ura M} (𝓛 : Logic 𝓤) (𝓜 : Model 𝓤 𝓛.H) (𝓡 : Running 𝓤 𝓛.H 𝓜) (key : Callee)
      → Closed 𝓤 𝓛.H (tables 𝓤 𝓛.H 𝓜 𝓡 𝓡.env).C (tables 𝓤 𝓛.H 𝓜 𝓡 𝓡.env).Λ key (open_code k t) → Meets 𝓛 open_ended.signature ((tables 𝓤 𝓛.H 𝓜 𝓡 𝓡.env).C key) (closing 𝓛 open_ended (open_spec 𝓛))
  open_meets k t {𝓤 = 𝓤} 𝓛 𝓜 𝓡 key closed =
      let c = open_spec 𝓛 in let W = walk_of 𝓛 open_ended open_stayed c in let 𝓣 = tables 𝓤 𝓛.H 𝓜 𝓡 𝓡.env in
      proved 𝓛 open_ended open_stayed c 𝓜 𝓡 (Goes-spent_ref 𝓛 1 (0 ∷ []) tt (plain (λ _. R)), tt) key (open_code k t) closed
      (λ κs. (mut_vals, tt)) (λ κs. (mut_Tells (named 0) κs.0 R, tt)) (λ κs qs bounds a _ are.
      let rb = a.0.ref_ptr.0 in let ro = a.0.ref_ptr.1 in let γ = a.0.ghost_name in let h = a.0.now in let vs = mut_vals a.0 in let κ = κs.0 in let q = qs.0 in
      let y : W.Ghost = ((κs, qs, bounds, a, (vs, tt)), tt) in
      qed 𝓛 (((‵ (flft κ q) ⊛ ‵ ftrue) ⊛ ‵ ((MutRef (named 0) κ R).own_val a.0 vs) ⊛ ‵ ftrue) ∷ ‵ ftrue ∷ []) ∵
      split ! $ split ! $ move ! (2 ∷ []) $ split ! $ keep ! (0 ∷ 2 ∷ []) $
      enter ! _ _ _ _ _ $ alloc_all ! (λ l. pass_all ! refl ((tt, tt), tt) $
      fsplit3 ! $ move ! (1 ∷ 2 ∷ 3 ∷ []) $ opens ! tt R rb ro (λ us.
      move ! (1 ∷ []) $ peeks ! R _ (shows 𝓛 R) h us (λ is. fsplit ! $ move ! (1 ∷ []) $
      in_a_block ! (N.at h) (λ p. box_owns may_free K p (N.value h)) (fst∗ 𝓤 (never 𝓤) (sem 𝓛 (may_free (bare (lone K.mir)) null_ptr))) (λ b o e. fsplit ! $
      let word = is_word h us e is in let Cell = λ (ws : List Val). ‵ (cell_at full_share R.mir ws rb ro) in let En = env (open_code k t).locals l in
      rewrite ! 3 Cell word refl $
      -- [the value; the right to free it; what the fields own; the handle's cell; the open borrow, in three entries]
      first ! $ blocks ! $
      sets ! (of_opd ! (load ! (through ! refl (fld ! refl (stop !))) (look_in ! 3 (sub ! 0 refl (whole !))))) refl (tt, tt) $
      sets ! (of_opd ! (get ! refl)) refl (tt, tt) $ sets_last ! (addr ! (through ! refl (stop !))) refl (tt, tt) $
      exec ! 𝓣.C 𝓣.Λ En (after 1 (open_code k t).body) (at_ret En (W.post y)) $ sets ! (of_opd ! (get ! refl)) refl (tt, tt) $
      rewrite ! 3 Cell (sym word) refl $ move ! (2 ∷ 3 ∷ []) $ fjoin ! $ move ! (2 ∷ 0 ∷ []) $ fjoin ! $ move ! (2 ∷ 3 ∷ 4 ∷ 1 ∷ 0 ∷ []) $ group ! 5 $
      let rest = sem 𝓛 (Rest 𝓛 h rb ro b o us) in let mend = back 𝓛 h rb ro b o us e in
      use1 𝓛 (later (some (λ (δ : GName). raw (Part 𝓛 R K (N.set h) (named 0) κ q rb ro b o γ rest mend (N.value h) δ))))
      (lends_Part 𝓛 R K (N.set h) (named 0) κ q rb ro b o γ rest mend (R.coded.code h) (R.coded.code h) (N.value h)) $ await ! tt $ pick ! (λ δ.
      returns ! (look_at ! 0 refl) $ free_all ! refl $ keep ! (0 ∷ []) $
      let r : MutBor K.Denot = record { ref_ptr = (b, o); ghost_name = δ; now = N.value h } in
      use1 𝓛 (‵ ((MutRef (named 0) κ K).own_val r (vptr b o ∷ [])) ⊛ ‵ (flft κ q) ⊛ ‵ (follows R K γ δ (N.set h))) (id⊢ 𝓤 _) $ split ! $ move ! (1 ∷ []) $ split ! $ move ! (2 ∷ 0 ∷ 1 ∷ []) $
      suffices ! _ (ends_at 𝓛 open_ended open_stayed c y (vptr b o) r (tt, tt) (tt, tt)) $
      nothing ! $ nothing ! $ fjoin ! $ join ! $ nothing ! $ move ! (2 ∷ 0 ∷ []) $ join ! $ join ! $ frame ! $ says ! refl $ done !))))))

  -- `let Handle { at } = self; Parts { at: at as *mut T, alloc }`
  abbrev pub parts_code : Ty → Fn
  parts_code p = record {
    lifetimes = 0;
    outlives = [];
    ty_params = [];
    givens = 0;
    params = 2;
    locals = local p value_local ∷ local laid value_local ∷ local (layout heap.the_row) value_local ∷ local ty_ptr value_local ∷ local ty_ptr value_local ∷ [];
    body = seq (assign (place 3 []) (rv_opd (copy (place 1 (field 0 ∷ []))))) (seq (assign (place 4 []) (rv_opd (copy (place 3 []))))
        (seq (assign (place 0 []) (aggregate (copy (place 4 []) ∷ copy (place 2 []) ∷ []))) return));
  }

  abbrev al : Al
  al = record { row = heap.the_row; laws = heap_laws.the_row_laws; g = ghosts; d = dict; drops = impl [] tnil dnil }

  abbrev pub P : RattleType
  P = parts.the_row K heap.the_row ghosts

  abbrev pub parts_ended : Ended
  parts_ended = record { signature = record { lifetimes = 0; outlives = []; params = plain (λ _. R) ∷ plain (λ _. heap.the_row) ∷ []; result = plain (λ _. P) }; kept = (yes, (yes, tt)) }

  abbrev pub parts_spec : {M : Type 1} {𝓤 : Ura M} (𝓛 : Logic 𝓤) → Clauses 𝓤 parts_ended
  parts_spec {𝓤 = 𝓤} 𝓛 κs a = record { ghost = Unit {0}; requires = λ _. emp 𝓤; ensures = λ _ r _. fact 𝓤 (r.value ≡ N.value a.0) }

  abbrev parts_stayed : Stays parts_ended.signature.params parts_ended.kept
  parts_stayed = (stay_dropped (plain (λ _. R)) yes, (stay_dropped (plain (λ _. heap.the_row)) yes, tt))

  pub parts_meets : {M : Type 1} {𝓤 : Ura M} (𝓛 : Logic 𝓤) (𝓜 : Model 𝓤 𝓛.H) (𝓡 : Running 𝓤 𝓛.H 𝓜) (key : Callee)
      → Closed 𝓤 𝓛.H (tables 𝓤 𝓛.H 𝓜 𝓡 𝓡.env).C (tables 𝓤 𝓛.H 𝓜 𝓡 𝓡.env).Λ key (parts_code (layout P)) → Meets 𝓛 parts_ended.signature ((tables 𝓤 𝓛.H 𝓜 𝓡 𝓡.env).C key) (closing 𝓛 parts_ended (parts_spec 𝓛))
  parts_meets {𝓤 = 𝓤} 𝓛 𝓜 𝓡 key closed =
      let c = parts_spec 𝓛 in let 𝓣 = tables 𝓤 𝓛.H 𝓜 𝓡 𝓡.env in let fn = parts_code (layout P) in
      proved_at 𝓛 parts_ended parts_stayed c 𝓜 𝓡 (Goes-dropped 𝓛 0 (plain (λ _. R)) yes (λ κs x w. refl), (Goes-dropped 𝓛 0 (plain (λ _. heap.the_row)) yes (λ κs x w. refl), tt)) key fn closed (λ z are.
      let h = z.0.3.0 in let a = z.0.3.1.0 in let us = z.0.4.0 in let gs = z.0.4.1.0 in let Post : Val → SProp 𝓤 = (walk_of 𝓛 parts_ended parts_stayed c).post z in let Run : List Val → SProp 𝓤 = λ ws. WpFn 𝓤 𝓛.H 𝓣.C 𝓣.Λ fn ws Post in
      qed 𝓛 ((‵ ftrue ⊛ ‵ (R.own_val h us) ⊛ ‵ (heap.the_row.own_val a gs) ⊛ ‵ ftrue) ∷ ‵ ftrue ∷ []) ∵
      split ! $ drop ! $ split ! $ peeks ! R _ (shows 𝓛 R) h us (λ is. fsplit ! $ drop ! $
      in_a_block ! (N.at h) (λ p. box_owns may_free K p (N.value h)) (fst∗ 𝓤 (never 𝓤) (sem 𝓛 (may_free (bare (lone K.mir)) null_ptr))) (λ b o e. fsplit ! $
      move ! (2 ∷ []) $ split ! $ handle_tells al ! a gs (λ hv ea fa.
      -- [the allocator; nothing; the value; the right to free it]
      let made : P.Denot = record { at = block_ptr b o; alloc = a; value = N.value h } in let w : Val = vstruct (vcons (vptr b o) (vcons hv vnil)) in
      let good : T (has_ty (layout P) w) × WT w = (and_tt (has_ty (layout heap.the_row) hv) fa.0, (tt, (fa.1, tt))) in
      move ! (2 ∷ 3 ∷ []) $ fjoin ! $ nothing ! $ move ! (2 ∷ 0 ∷ []) $ fjoin ! $ feq_i ! (List Val) (vptr b o ∷ []) (vptr b o ∷ []) refl $ fjoin ! $ feq_i ! (List Val) (w ∷ []) (w ∷ []) refl $ fjoin ! $
      fpack ! (Valss (RawPtr ∷ heap.the_row ∷ [])) (within (owning.shape (parts.the_type K heap.the_row ghosts)) (block_ptr b o, (a, tt)) (w ∷ [])) (vptr b o ∷ [], (hv ∷ [], tt)) $ fjoin ! $
      use1 𝓛 (‵ (P.own_val made (w ∷ []))) (id⊢ 𝓤 _) $ keep ! (0 ∷ []) $
      let v : Val = vstruct (vcons (vptr b o) vnil) in let is_v : us ≡ v ∷ [] = is_word h us e is in
      suffices ! (Run (v ∷ hv ∷ [])) (subst (λ (ws : List Val). ent 𝓤 (Run (v ∷ hv ∷ [])) (Run ws)) (sym (λ i. is_v i ++ (ea i ++ []))) (id⊢ 𝓤 (Run (v ∷ hv ∷ [])))) $
      enter ! 𝓣.C 𝓣.Λ fn (v ∷ hv ∷ []) Post $ alloc_all ! (λ l. pass_all ! refl ((tt, (tt, tt)), (fa, tt)) $
      sets ! (of_opd ! (get_in ! (fld ! refl (stop !)) (sub ! 0 refl (whole !)))) refl (tt, tt) $ sets ! (of_opd ! (get ! refl)) refl (tt, tt) $
      sets ! (agg ! (and_then ! (get ! refl) (and_then ! (get ! refl) (no_more !)))) refl good $
      returns ! (look_at ! 0 refl) $ free_all ! refl $
      suffices ! _ (ends_at 𝓛 parts_ended parts_stayed c z w made (tt, (tt, tt)) (tt, (tt, tt))) $ says ! refl $
      nothing ! $ nothing ! $ fjoin ! $ nothing ! $ fjoin ! $ join ! $ nothing ! $ join ! $ done !)))))

-- The place of a kind of handle: as a kind, but that it may have no value yet, and a way to make one of a pointer and a
-- value.
pub record Slot : Type 2 where
  pub kept : RattleType
  pub name : Sym
  pub D : Type 0
  pub at : D → Ptr
  pub value : D → Option kept.Denot
  pub make : Ptr → kept.Denot → D
  pub same_at : (p : Ptr) (w : kept.Denot) → at (make p w) ≡ p
  pub new_value : (p : Ptr) (w : kept.Denot) → value (make p w) ≡ Some w
  pub coded : Coded D
  pub shr_at : D → ℕ → ℕ → Lft → Fml

module _ (N : Slot) where
  abbrev pub slot_type : owning.Owning
  slot_type = record {
    name = N.name;
    args = [];
    types = [];
    parts = RawPtr-field ∷ [];
    D = N.D;
    as_values = λ d. (N.at d, tt);
    coded = N.coded;
    heap = λ d. slot_owns N.kept (N.at d) (N.value d);
    exit = λ k. hidden (under (λ d. intos (RawPtr-field ∷ []) (N.at d, tt)) (exits_of k (rows (RawPtr-field ∷ []))));
    shr_at = N.shr_at;
  }

  abbrev pub S : RattleType
  S = owning.row slot_type

  abbrev From : RattleType
  From = parts.the_row N.kept heap.the_row ghosts

  -- `let Parts { at, alloc: _ } = parts; Slot { at: at as *mut u8 }`
  abbrev pub slot_code : Ty → Fn
  slot_code p = record {
    lifetimes = 0;
    outlives = [];
    ty_params = [];
    givens = 0;
    params = 1;
    locals = local (ty_struct N.name (tcons ty_ptr tnil)) value_local ∷ local p value_local ∷ local ty_ptr value_local ∷ local ty_ptr value_local ∷ [];
    body = seq (assign (place 2 []) (rv_opd (copy (place 1 (field 0 ∷ []))))) (seq (assign (place 3 []) (rv_opd (copy (place 2 []))))
        (seq (assign (place 0 []) (aggregate (copy (place 3 []) ∷ []))) return));
  }

  abbrev pub slot_ended : Ended
  slot_ended = record { signature = record { lifetimes = 0; outlives = []; params = plain (λ _. From) ∷ []; result = plain (λ _. S) }; kept = (yes, tt) }

  abbrev pub slot_spec : {M : Type 1} {𝓤 : Ura M} (𝓛 : Logic 𝓤) → Clauses 𝓤 slot_ended
  slot_spec {𝓤 = 𝓤} 𝓛 κs a = record { ghost = Unit {0}; requires = λ _. emp 𝓤; ensures = λ _ r _. fact 𝓤 (N.value r ≡ Some a.0.value) }

  abbrev slot_stayed : Stays slot_ended.signature.params slot_ended.kept
  slot_stayed = (stay_dropped (plain (λ _. From)) yes, tt)

  abbrev slot_al : Al
  slot_al = record { row = heap.the_row; laws = heap_laws.the_row_laws; g = ghosts; d = dict; drops = impl [] tnil dnil }

  pub slot_meets : {M : Type 1} {𝓤 : Ura M} (𝓛 : Logic 𝓤) (𝓜 : Model 𝓤 𝓛.H) (𝓡 : Running 𝓤 𝓛.H 𝓜) (key : Callee)
      → Closed 𝓤 𝓛.H (tables 𝓤 𝓛.H 𝓜 𝓡 𝓡.env).C (tables 𝓤 𝓛.H 𝓜 𝓡 𝓡.env).Λ key (slot_code (layout From)) → Meets 𝓛 slot_ended.signature ((tables 𝓤 𝓛.H 𝓜 𝓡 𝓡.env).C key) (closing 𝓛 slot_ended (slot_spec 𝓛))
  slot_meets {𝓤 = 𝓤} 𝓛 𝓜 𝓡 key closed =
      let c = slot_spec 𝓛 in let 𝓣 = tables 𝓤 𝓛.H 𝓜 𝓡 𝓡.env in let fn = slot_code (layout From) in
      proved_at 𝓛 slot_ended slot_stayed c 𝓜 𝓡 (Goes-dropped 𝓛 0 (plain (λ _. From)) yes (λ κs x w. refl), tt) key fn closed (λ z are.
      let v = z.0.3.0 in let us = z.0.4.0 in let Post : Val → SProp 𝓤 = (walk_of 𝓛 slot_ended slot_stayed c).post z in let Run : List Val → SProp 𝓤 = λ ws. WpFn 𝓤 𝓛.H 𝓣.C 𝓣.Λ fn ws Post in
      qed 𝓛 ((‵ ftrue ⊛ ‵ (From.own_val v us) ⊛ ‵ ftrue) ∷ ‵ ftrue ∷ []) ∵
      split ! $ drop ! $ split ! $ fsplit ! $ fpick ! (λ vss. fsplit ! $ feq_l ! (λ ev. fsplit ! $ feq_l ! (λ ep. fsplit ! $ handle_tells slot_al ! v.alloc vss.1.0 (λ hv ea fa.
      move ! (1 ∷ []) $ drop ! $ move ! (1 ∷ []) $
      in_a_block ! v.at (λ p. box_owns may_free N.kept p v.value) (fst∗ 𝓤 (never 𝓤) (sem 𝓛 (may_free (bare (lone N.kept.mir)) null_ptr))) (λ b o e.
      -- [the box; the allocator; nothing]
      let made : N.D = N.make (block_ptr b o) v.value in let w : Val = vstruct (vcons (vptr b o) vnil) in let pv : Val = vstruct (vcons (vptr b o) (vcons hv vnil)) in
      let is_pv : us ≡ pv ∷ [] = ev ∙ (λ j. vstruct (of_list ((ep ∙ ap (λ (p : Ptr). ptr_val p ∷ []) e) j ++ (ea j ++ []))) ∷ []) in
      let good : T (has_ty (layout From) pv) × WT pv = (and_tt (has_ty (layout heap.the_row) hv) fa.0, (tt, (fa.1, tt))) in
      let words : vptr b o ∷ [] ≡ ptr_val (N.at made) ∷ [] = ap (λ (p : Ptr). ptr_val p ∷ []) (sym (N.same_at (block_ptr b o) v.value)) in
      rewrite ! 0 (λ (p : Ptr). ‵ (box_owns may_free N.kept p v.value)) (sym (N.same_at (block_ptr b o) v.value)) refl $
      rewrite ! 0 (λ (x : Option N.kept.Denot). ‵ (slot_owns N.kept (N.at made) x)) (sym (N.new_value (block_ptr b o) v.value)) refl $
      nothing ! $ feq_i ! (List Val) (vptr b o ∷ []) (ptr_val (N.at made) ∷ []) words $ fjoin ! $ feq_i ! (List Val) (w ∷ []) (w ∷ []) refl $ fjoin ! $
      fpack ! (Valss (RawPtr ∷ [])) (within (owning.shape slot_type) (N.at made, tt) (w ∷ [])) (vptr b o ∷ [], tt) $ fjoin ! $
      use1 𝓛 (‵ (S.own_val made (w ∷ []))) (id⊢ 𝓤 _) $ keep ! (0 ∷ []) $
      suffices ! (Run (pv ∷ [])) (subst (λ (ws : List Val). ent 𝓤 (Run (pv ∷ [])) (Run ws)) (sym (λ i. is_pv i ++ [])) (id⊢ 𝓤 (Run (pv ∷ [])))) $
      enter ! 𝓣.C 𝓣.Λ fn (pv ∷ []) Post $ alloc_all ! (λ l. pass_all ! refl (good, tt) $
      sets ! (of_opd ! (get_in ! (fld ! refl (stop !)) (sub ! 0 refl (whole !)))) refl (tt, tt) $ sets ! (of_opd ! (get ! refl)) refl (tt, tt) $
      sets ! (agg ! (and_then ! (get ! refl) (no_more !))) refl (tt, (tt, tt)) $ returns ! (look_at ! 0 refl) $ free_all ! refl $
      suffices ! _ (ends_at 𝓛 slot_ended slot_stayed c z w made (tt, tt) (tt, tt)) $ says ! (N.new_value (block_ptr b o) v.value) $
      nothing ! $ nothing ! $ fjoin ! $ join ! $ nothing ! $ join ! $ done !)))))))
