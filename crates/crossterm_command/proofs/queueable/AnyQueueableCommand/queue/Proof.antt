-- `queue` hands the writer back if its command was written, and else gives it up as it then is. Assumes `Logic`.
use Rattle.std.proofs.Common.{◌≡◌, ℕ, List, [], ◌∷◌, ◌++◌, refl, sym, ap, ◌∙◌, subst, lit<, MutBor}
use lib.Dec.{T}
use mir.Syntax.{Fn, Args, Body, a_type, dcons, dnil, named}
use mir.Val.{Val, vptr, has_ty, WT, of_list}
use mir.MapTy.{inst_fn}
use base.Fraction.{full_share, left, right}
use base.Logic.{SProp, ent, emp, id⊢, wand, apply∗}
use base.Fml.{Fml, Lft, Share, GName, ftrue, flft, fdead, fres}
use prog.Wp.{Env, Wp, WpFn, after_seq, at_return}
use contract.BorrowLft.{◌⊑◌, meet_⊑_left, meet_⊑_right}
use contract.Monad.{fact, fact_i}
use contract.Running.{tables}
use types.Kit.{any_q, feq_l, ‵, raw, ◌⊛◌, some, later, at_ret, ◌$◌, ◌∵◌, !, qed, by, move, drop, use0, use1, use2, use3, split, join, fsplit, fsplit3, fjoin, await, pick}
use types.Run.{stop, fld, addr, lit, of_opd, no_more, and_then, first, switches_on, exec, returns, enter}
use types.ByLocal.{alloc_all, pass_all, free_all, look_at, get, get_in, get_tag, through, sets, sets_last, lands_as, env}
use types.Part.{whole, agg}
use types.Match.{live, vrt, in_variant}
use types.Tokens.{lft_new, lft_end}
use denote.RattleType.{RattleType, owns}
use denote.Param.{param, bounded, layout}
use denote.Param.Laws.{param_laws}
use denote.Param.Steps.{one_value}
use denote.Ref.{MutRef}
use denote.Builtin.{unit}
use denote.Signature.{types_at}
use denote.Steps.{nothing, heard, only}
use denote.Lend.{lends_again, comes_back, LentAgain}
use denote.Triple.Call.{calls_at}
use denote.Triple.Clauses.{Lasts, lasts, at_exit}
use denote.Triple.Entry.{alive}
use denote.Triple.Table.{framed}
use denote.Triple.Spec.{triple_of}
use denote.Triple.Walked.{Stays, stay_dropped, walk_of, Goes-dropped}
use Rattle.std.proofs.raw_atomic.Walks.{proved_at, leaves}
use Rattle.std.specs.Prelude.{OnOk, IfErr, IfOk, Ok, Err}
use Rattle.std.specs.IoError.{error_kind}
use Rattle.std.specs.Borrow.{RestsIfErr}
use Rattle.crossterm_command.specs.Writing.{AppendsText, Stops}
use Rattle.std.specs.contracts.result.Result as result
use Rattle.std.specs.contracts.io.Error as error
use Rattle.std.proofs.io.Error.TheLaws as error_laws
use Rattle.crossterm_command.specs.contracts.color_output.ColorOutput as color
use Rattle.crossterm_command.proofs.color_output.ColorOutput.TheLaws as color_laws
use Rattle.crossterm_command.proofs.Handing.{slot_at, after, head, arm_body, either, ok_made, err_made, lends_itself, rests_at, and_tt}
use Rattle.crossterm_command.specs.contracts.queueable.AnyQueueableCommand.queue as f
use Rattle.crossterm_command.specs.contracts.queueable.AnyQueueableCommand.queue.Key.{name as #self}
use Rattle.crossterm_command.specs.contracts.queueable.queue_on as g
use Rattle.crossterm_command.proofs.queueable.queue_on.Met.{met}
use Rattle.crossterm_command.proofs.queueable.AnyQueueableCommand.queue.Statement.{statement}
use Rattle.crossterm_command.proofs.queueable.AnyQueueableCommand.queue.Code as code

pub queue_spec : {M : Type 1} → statement M
queue_spec 𝓤 𝓛 𝓜 𝓡 wired W C LW LC gW dW gC dC dD metW metC metD =
    let H = 𝓛.H in let 𝓣 = tables 𝓤 H 𝓜 𝓡 𝓡.env in
    let R : RattleType = param 0 W in let RC : RattleType = param 1 C in
    let En = f.ended W C gW dW gC dC dD in let c = f.clauses W C gW dW gC dC dD 𝓛 𝓜.mem 𝓡.returns in
    let ps = En.signature.params in
    let inst : Args = bounded (a_type ∷ a_type ∷ []) (W, (C, tt)) (dcons dW (dcons dC (dcons dD dnil))) in let fn : Fn = inst_fn inst code.function in
    let hs : Stays ps En.kept = (stay_dropped (slot_at 0 ps) En.kept.0, (stay_dropped (slot_at 1 ps) En.kept.1.0, (stay_dropped (slot_at 2 ps) En.kept.1.1.0, tt))) in
    proved_at 𝓛 En hs c 𝓜 𝓡 (Goes-dropped 𝓛 3 (slot_at 0 ps) En.kept.0 (λ κs x w. refl), (Goes-dropped 𝓛 3 (slot_at 1 ps) En.kept.1.0 (λ κs x w. refl), (Goes-dropped 𝓛 3 (slot_at 2 ps) En.kept.1.1.0 (λ κs x w. refl), tt)))
    (#self inst) fn (code.unfolded 𝓤 H 𝓜 𝓡 wired (W, (C, tt)) dW dC dD) (λ z are.
    let Out : RattleType = result.the_row unit error.the_row in let Wk = walk_of 𝓛 En hs c in
    let κs = z.0.0 in let qs = z.0.1 in let a = z.0.3 in
    let κ : Lft = κs.0 in let μ : Lft = κs.1.0 in let ν : Lft = κs.1.1.0 in let q : Share = qs.0 in let s : Share = qs.1.0 in let t : Share = qs.1.1.0 in
    let w = a.0 in let b : ℕ = w.ref_ptr.0 in let o : ℕ = w.ref_ptr.1 in let γ : GName = w.ghost_name in let x : W.Denot = w.now in
    let At : List Val → List Val → List Val → Wk.Ghost = λ us cs ds. ((κs, qs, z.0.2, a, (us, (cs, (ds, tt)))), z.1) in
    let Goes : List Val → List Val → List Val → Type 1 = λ us cs ds. ent 𝓤 (Wk.pre (At us cs ds)) (WpFn 𝓤 H 𝓣.C 𝓣.Λ fn (Wk.args (At us cs ds)) (Wk.post (At us cs ds))) in
    let typed_color = (color_laws.the_row_laws.lawful 𝓛).typed a.1.0 z.0.4.1.0 are.1.0 in
    let typed_command = ((param_laws 1 C LC).lawful 𝓛).typed a.1.1.0 z.0.4.1.1.0 are.1.1.0 in
    let walks : (cv : Val) → T (has_ty (layout color.the_row) cv) × WT cv → (dv : Val) → T (has_ty (layout C) dv) × WT dv → Goes (vptr b o ∷ []) (cv ∷ []) (dv ∷ []) = λ cv ct dv dt.
    qed 𝓛 ((raw (alive 𝓛 En.signature κs qs) ⊛ ‵ (owns (types_at ps κs) a (vptr b o ∷ [], (cv ∷ [], (dv ∷ [], tt))))) ∷ (raw (fact 𝓤 (μ ⊑ W.lives)) ⊛ (raw (fact 𝓤 (ν ⊑ C.lives)) ⊛ raw (emp 𝓤))) ∷ []) ∵
    move ! (1 ∷ []) $ split ! $ heard ! (μ ⊑ W.lives) (λ inW. split ! $ heard ! (ν ⊑ C.lives) (λ inC. drop ! $ split ! $
    use1 𝓛 (‵ (flft κ q) ⊛ (‵ (flft μ s) ⊛ (‵ (flft ν t) ⊛ ‵ ftrue))) (id⊢ 𝓤 _) $ split ! $ move ! (1 ∷ []) $ split ! $ move ! (1 ∷ []) $ split ! $ move ! (1 ∷ []) $ drop ! $
    -- [the tokens of C, of W and of the writer; what the parameters own]
    move ! (3 ∷ []) $ fsplit ! $ move ! (1 ∷ []) $ fsplit ! $ move ! (1 ∷ []) $ fsplit ! $ move ! (1 ∷ []) $ drop ! $
    -- [the command; the colours; the writer; the three tokens]
    enter ! _ _ _ _ _ $ alloc_all ! (λ l. pass_all ! refl ((tt, tt), (ct, (dt, tt))) $
    sets ! (addr ! (through ! refl (stop !))) refl (tt, tt) $ sets ! (of_opd ! (get ! refl)) refl dt $
    lft_new ! tt (λ α.
    use1 𝓛 (‵ (flft (α ∷ []) (left s)) ⊛ raw (wand 𝓤 (𝓛.A.lft (α ∷ []) (left s)) (𝓛.A.lft (α ∷ []) full_share))) (𝓛.lfts.lft_carve α (left s)) $ split ! $
    move ! (6 ∷ []) $ use1 𝓛 (‵ (flft μ (left s)) ⊛ ‵ (flft μ (right s))) (𝓛.lfts.lft_split μ s) $ split ! $
    move ! (2 ∷ 0 ∷ []) $ use2 𝓛 (‵ (flft (α ∷ μ) (left s))) (𝓛.lfts.lft_meet (α ∷ []) μ (left s)) $ move ! (5 ∷ 7 ∷ []) $
    use2 𝓛 (later (some (λ (δ : GName). ‵ ((MutRef (named 0) (α ∷ μ) R).own_val (record w { ghost_name = δ }) (vptr b o ∷ [])) ⊛ ‵ (LentAgain R κ (α ∷ μ) q γ b o δ x))))
    (lends_again 𝓛 R (named 0) κ (α ∷ μ) q γ b o (named 0) x) $ await ! tt $ pick ! (λ δ. split ! $
    -- [the loan; what the lender keeps; the token of α and W; W's other half; the way back to α; the command; the colours; C's token]
    let Ge = g.ended W C gW dW gC dC dD in let gc = g.clauses W C gW dW gC dC dD 𝓛 𝓜.mem 𝓡.returns in
    let Gt = triple_of 𝓛 (g.signature W C) (g.spec W C gW dW gC dC dD 𝓛 𝓜.mem 𝓡.returns) in
    let y : Gt.Ghost = (((α ∷ μ, (μ, (ν, tt))), (left s, (right s, (t, tt))), (meet_⊑_right (α ∷ []) μ, tt), (record w { ghost_name = δ }, (a.1.0, (a.1.1.0, tt))), (vptr b o ∷ [], (cv ∷ [], (dv ∷ [], tt)))), tt) in
    nothing ! $ move ! (6 ∷ 0 ∷ []) $ join ! $ move ! (6 ∷ 0 ∷ []) $ join ! $ move ! (1 ∷ 0 ∷ []) $ join ! $
    nothing ! $ move ! (6 ∷ 0 ∷ []) $ join ! $ move ! (4 ∷ 0 ∷ []) $ join ! $ move ! (3 ∷ 0 ∷ []) $ join ! $ join ! $
    nothing ! $ use0 𝓛 (raw (fact 𝓤 (ν ⊑ C.lives))) (fact_i 𝓤 (ν ⊑ C.lives) (emp 𝓤) inC) $ join ! $
    use0 𝓛 (raw (fact 𝓤 (μ ⊑ W.lives))) (fact_i 𝓤 (μ ⊑ W.lives) (emp 𝓤) inW) $ join ! $ move ! (1 ∷ 0 ∷ []) $
    use2 𝓛 (raw (Gt.pre y)) (id⊢ 𝓤 _) $
    -- [what the call asks; what the lender keeps; the way back to α]
    calls_at ! (framed 𝓤 H 𝓜 𝓣) Gt (met 𝓤 𝓛 𝓜 𝓡 (code.calls-crossterm_command::queueable::queue_on 𝓡.env wired) W C LW LC gW dW gC dC dD metW metC metD) y
    (and_then ! (get ! refl) (and_then ! (get ! refl) (and_then ! (get ! refl) (no_more !)))) (λ v.
    use1 𝓛 (later (some (λ (r : Out.Denot). ((‵ (flft (α ∷ μ) (left s)) ⊛ (‵ (flft μ (right s)) ⊛ (‵ (flft ν t) ⊛ ‵ ftrue))) ⊛ ‵ (Out.own_val r (v ∷ []))) ⊛
    some (λ (ws : Lasts Ge y.0.0 y.0.3). ‵ (lasts Ge y.0.0 y.0.3 ws) ⊛ raw ((gc y.0.0 y.0.3).ensures y.1 r (at_exit Ge y.0.0 y.0.3 ws)))))) (id⊢ 𝓤 _) $
    await ! tt $ pick ! (λ r. split ! $ move ! (1 ∷ []) $ pick ! (λ ws. split ! $
    -- [what is left of the loan; what the call ensures; the tokens and the outcome; what the lender keeps; the way back to α]
    let Whole : Out.Denot → Type 0 = λ r'. OnOk r' (AppendsText (gW.contents x) (gW.contents ws.0) (gC.text a.1.1.0 a.1.0)) in
    let Torn : Out.Denot → Type 0 = λ r'. IfErr r' (λ e'. Stops (error_kind e') (gC.text a.1.1.0 a.1.0) (gC.fails a.1.1.0 a.1.0) (gW.contents x) (gW.contents ws.0)) in
    move ! (1 ∷ []) $ use1 𝓛 (raw (fact 𝓤 (Whole r)) ⊛ raw (fact 𝓤 (Torn r))) (id⊢ 𝓤 _) $ split ! $ heard ! (Whole r) (λ grew. heard ! (Torn r) (λ stopped.
    fsplit ! $ fsplit ! $ move ! (1 ∷ []) $ drop ! $ move ! (1 ∷ []) $ drop ! $ move ! (1 ∷ []) $ split ! $ split ! $
    use1 𝓛 (‵ (flft (α ∷ []) (left s)) ⊛ ‵ (flft μ (left s))) (𝓛.lfts.lft_unmeet (α ∷ []) μ (left s)) $ split ! $ move ! (0 ∷ 6 ∷ []) $
    use2 𝓛 (‵ (flft (α ∷ []) full_share)) (apply∗ 𝓤 (𝓛.A.lft (α ∷ []) (left s)) (𝓛.A.lft (α ∷ []) full_share)) $ lft_end ! tt $
    use1 𝓛 (‵ (fdead (α ∷ μ))) (𝓛.lfts.dead-incl (α ∷ μ) (α ∷ []) (meet_⊑_left (α ∷ []) μ)) $ move ! (0 ∷ 5 ∷ 4 ∷ []) $
    use3 𝓛 (later (‵ ((MutRef (named 0) κ R).own_val (record w { now = ws.0 }) (vptr b o ∷ [])) ⊛ ‵ (flft κ q))) (comes_back 𝓛 R (named 0) κ (α ∷ μ) q γ b o δ x ws.0) $ await ! tt $ split ! $
    move ! (2 ∷ 3 ∷ []) $ move ! (1 ∷ []) $ split ! $ move ! (2 ∷ 0 ∷ []) $ use2 𝓛 (‵ (flft μ s)) (𝓛.lfts.lft_join μ s) $ join ! $ move ! (2 ∷ 0 ∷ []) $ join ! $ move ! (2 ∷ []) $
    -- [the outcome; the tokens; the writer]
    let Ev : Env 𝓤 H = env fn.locals l in let Post : Val → SProp 𝓤 = Wk.post (At (vptr b o ∷ []) (cv ∷ []) (dv ∷ [])) in
    let arms : Body = head (after 3 fn.body) in let Then = any_q (after_seq 𝓤 H (Wp 𝓤 H 𝓣.C 𝓣.Λ Ev (after 4 fn.body) (at_return 𝓤 H Ev Post)) (at_return 𝓤 H Ev Post)) in
    let Back : RattleType = MutRef (named 0) κ R in let Res : RattleType = result.the_row Back error.the_row in
    let held : MutBor W.Denot = record w { now = ws.0 } in
    let Follows : Res.Denot → Fml = λ r'. RestsIfErr R w {A = MutBor W.Denot} (λ m. m.ghost_name) r' (λ last. IfErr r' (λ e'. Stops (error_kind e') (gC.text a.1.1.0 a.1.0) (gC.fails a.1.1.0 a.1.0) (gW.contents x) (gW.contents last))) in
    let Same : Res.Denot → Type 0 = λ r'. IfOk r' (λ m. m.ghost_name ≡ γ) in
    let Written : Res.Denot → Type 0 = λ r'. IfOk r' (λ m. AppendsText (gW.contents x) (gW.contents m.now) (gC.text a.1.1.0 a.1.0)) in
    either ! unit error.the_row error_laws.the_row_laws r (v ∷ [])
    (λ u was us is. feq_l ! (λ one.
    let out : Val = live 0 (of_list (vptr b o ∷ [])) in
    lands_as ! (ap only is ∙ ap (λ vs. live 0 (of_list (vs ++ []))) one) refl (tt, (record { fits = lit< tt }, (tt, tt))) $
    first ! $ switches_on ! (get_tag ! (vrt ! refl (fld ! refl (stop !))) (whole !)) $ exec ! 𝓣.C 𝓣.Λ Ev (arm_body 0 arms) Then $
    sets ! (addr ! (through ! refl (stop !))) refl (tt, tt) $ sets_last ! (agg ! (and_then ! (lit ! tt) (and_then ! (get ! refl) (no_more !)))) refl (tt, (record { fits = lit< tt }, (tt, tt))) $
    exec ! 𝓣.C 𝓣.Λ Ev (after 4 fn.body) (at_ret Ev Post) $ sets ! (of_opd ! (get ! refl)) refl (tt, (record { fits = lit< tt }, (tt, tt))) $ returns ! (look_at ! 0 refl) $ free_all ! refl $
    -- [the tokens; the writer]
    move ! (1 ∷ []) $ use1 𝓛 (‵ (Res.own_val (Ok held) (out ∷ []))) (ok_made 𝓛 Back error.the_row held (vptr b o)) $
    use0 𝓛 (raw (fact 𝓤 (Written (Ok held)))) (fact_i 𝓤 (Written (Ok held)) (emp 𝓤) (subst Whole was grew)) $ use0 𝓛 (raw (fact 𝓤 (Same (Ok held)))) (fact_i 𝓤 (Same (Ok held)) (emp 𝓤) refl) $ join ! $
    use0 𝓛 (‵ (Follows (Ok held))) (lends_itself 𝓛 R γ _ _ ws.0 (λ n. refl) tt) $ join ! $
    nothing ! $ nothing ! $ fjoin ! $ nothing ! $ fjoin ! $ nothing ! $ fjoin ! $ move ! (3 ∷ 0 ∷ 2 ∷ 1 ∷ []) $
    by ! (leaves 𝓛 En hs c (At (vptr b o ∷ []) (cv ∷ []) (dv ∷ [])) out (Ok held) (tt, (tt, (tt, tt))) (tt, (tt, (tt, tt))))))
    (λ e was ev typed is.
    let out : Val = live 1 (of_list (ev ∷ [])) in
    lands_as ! (ap only is) refl (and_tt _ typed.0, (record { fits = lit< tt }, (typed.1, tt))) $
    first ! $ switches_on ! (get_tag ! (vrt ! refl (fld ! refl (stop !))) (whole !)) $ exec ! 𝓣.C 𝓣.Λ Ev (arm_body 1 arms) Then $
    sets ! (of_opd ! (get_in ! (vrt ! refl (fld ! refl (stop !))) (in_variant ! 1 0 refl refl (whole !)))) refl typed $
    sets_last ! (agg ! (and_then ! (lit ! tt) (and_then ! (get ! refl) (no_more !)))) refl (and_tt _ typed.0, (record { fits = lit< tt }, (typed.1, tt))) $
    exec ! 𝓣.C 𝓣.Λ Ev (after 4 fn.body) (at_ret Ev Post) $ sets ! (of_opd ! (get ! refl)) refl (and_tt _ typed.0, (record { fits = lit< tt }, (typed.1, tt))) $ returns ! (look_at ! 0 refl) $ free_all ! refl $
    -- [the error; the tokens; the writer]
    use1 𝓛 (‵ (Res.own_val (Err e) (out ∷ []))) (err_made 𝓛 Back error.the_row e ev) $ move ! (2 ∷ []) $ fsplit3 ! $ drop ! $ move ! (1 ∷ []) $ drop ! $
    use1 𝓛 (‵ (fres γ (R.coded.code ws.0))) (𝓛.names.obs-res γ (R.coded.code ws.0)) $
    use1 𝓛 (‵ (Follows (Err e))) (rests_at 𝓛 R γ _ _ ws.0 (λ n. tt) (subst Torn was stopped)) $
    use0 𝓛 (raw (fact 𝓤 (Written (Err e)))) (fact_i 𝓤 (Written (Err e)) (emp 𝓤) tt) $ use0 𝓛 (raw (fact 𝓤 (Same (Err e)))) (fact_i 𝓤 (Same (Err e)) (emp 𝓤) tt) $ join ! $ move ! (1 ∷ 0 ∷ []) $ join ! $
    nothing ! $ nothing ! $ fjoin ! $ nothing ! $ fjoin ! $ nothing ! $ fjoin ! $ move ! (3 ∷ 0 ∷ 2 ∷ 1 ∷ []) $
    by ! (leaves 𝓛 En hs c (At (vptr b o ∷ []) (cv ∷ []) (dv ∷ [])) out (Err e) (tt, (tt, (tt, tt))) (tt, (tt, (tt, tt))))))))))))))) in
    subst (λ (us : List Val). Goes us z.0.4.1.0 z.0.4.1.1.0) (sym are.0.0)
    (one_value (layout color.the_row) (λ cs. Goes (vptr b o ∷ []) cs z.0.4.1.1.0) z.0.4.1.0 typed_color (λ cv ct.
    one_value (layout C) (λ ds. Goes (vptr b o ∷ []) (cv ∷ []) ds) z.0.4.1.1.0 typed_command (λ dv dt. walks cv ct dv dt))))
