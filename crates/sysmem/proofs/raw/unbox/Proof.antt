-- `unbox` hands the box on, and keeps the pair that comes back with what the box owned.
use Rattle.sysmem.proofs.Common.{ !, Args, B, Bx, Goes-blank, List, Ptr, R, SProp, Stays, Val, WpFn, [], a_type, agg, alloc_all, and_then}
use Rattle.sysmem.proofs.Common.{ap, await, block_ptr, bounded, box_in, box_out, box_owns, box_typed, by, dcons, dnil, drop, emp, ent}
use Rattle.sysmem.proofs.Common.{enter, fact, fact_i, fjoin, flft, framed, free_all, fsep, fsplit, fst∗, ftrue, get, heard, id⊢}
use Rattle.sysmem.proofs.Common.{in_a_block, inst_fn, join, keep, later, leaves, look_at, move, never, no, no_more, nothing, null_ptr}
use Rattle.sysmem.proofs.Common.{of_list, of_opd, only, owns, pass_all, pick, plain, proved_at, ptr_val, qed, raw, refl, returns, rewrite}
use Rattle.sysmem.proofs.Common.{sem, sets, some, split, split3, stay_dropped, subst, suffices, sym, tables, token, triple_of, types_at}
use Rattle.sysmem.proofs.Common.{use0, use1, vstruct, walk_of, word, τ, ‵, ◌$◌, ◌++◌, ◌∵◌, ◌∷◌, ◌≡◌, ◌⊛◌}
use mir.Raw.{raw as bare}
use types.ByLocal.{lands_as}
use denote.Triple.Call.{calls_at}
use Rattle.std_alloc.proofs.boxed.Box.into_raw_with_allocator.Met.{met}
use Rattle.sysmem.proofs.Unboxing.{Parts, shell, shell_typed, parts_out, loose_in}
use Rattle.sysmem.proofs.raw.unbox.Statement.{statement}
use Rattle.sysmem.specs.contracts.raw.unbox.{ended, clauses}
use Rattle.sysmem.specs.contracts.raw.unbox.Key.{name}
use Rattle.std_alloc.specs.contracts.boxed.Box.into_raw_with_allocator as called
use Rattle.sysmem.proofs.raw.unbox.Code as code

pub unbox_spec : {M : Type 1} → statement M
unbox_spec 𝓤 𝓛 𝓜 𝓡 wired T A L LA g d dx dd allocator glue glued =
    let E : Bx = record { row = T; laws = L; al = record { row = A; laws = LA; g = g; d = d; drops = dd } } in
    let args : Args = bounded (a_type ∷ a_type ∷ []) (T, (A, tt)) (dcons d (dcons dx (dcons dd dnil))) in
    let fn = inst_fn args code.function in let 𝓣 = tables 𝓤 𝓛.H 𝓜 𝓡 𝓡.env in
    let F = ended T A g d dx dd in let c = clauses T A g d dx dd 𝓛 𝓜.mem 𝓡.returns in
    let stayed : Stays F.signature.params F.kept = (stay_dropped (plain (λ _. B E)) no, tt) in
    let G = triple_of 𝓛 (called.signature T A g d dd dx) (called.spec T A g d dd dx 𝓛 𝓜.mem 𝓡.returns) in
    proved_at 𝓛 F stayed c 𝓜 𝓡 (Goes-blank 𝓛 2 (plain (λ _. B E)) no (λ κs x f. tt), tt) (name args) fn (code.unfolded 𝓤 𝓛.H 𝓜 𝓡 wired
    (T, (A, tt)) d dx dd) (λ z are.
    let κs = z.0.0 in let qs = z.0.1 in let v = z.0.3.0 in let a = v.alloc in
    let Post : Val → SProp 𝓤 = (walk_of 𝓛 F stayed c).post z in let Runs : List Val → SProp 𝓤 = λ ws. WpFn 𝓤 𝓛.H 𝓣.C 𝓣.Λ fn ws Post in
    let alive = ‵ (flft κs.0 qs.0) ⊛ ‵ (flft κs.1.0 qs.1.0) ⊛ ‵ ftrue in
    qed 𝓛 ((alive ⊛ ‵ (owns (types_at F.signature.params κs) z.0.3 z.0.4)) ∷ raw ((c κs z.0.3).requires z.1) ∷ []) ∵ split ! $ move !
    (1 ∷ []) $ fsplit ! $
    box_out E ! v z.0.4.0 (λ b o h e ws fits. box_in E ! v b o v.value e refl $
    let w = word E h b o in let y : G.Ghost = ((κs, qs, tt, (v, tt), (w ∷ [], tt)), tt) in
    fjoin ! $ move ! (1 ∷ 0 ∷ []) $ join ! $ join ! $ use1 𝓛 (raw (G.pre y)) (id⊢ 𝓤 _) $
    suffices ! (Runs (w ∷ [])) (subst (λ (us : List Val). ent 𝓤 (Runs (w ∷ [])) (Runs us)) (sym (λ i. ws i ++ [])) (id⊢ 𝓤 (Runs (w ∷ []))))
    $
    enter ! 𝓣.C 𝓣.Λ fn (w ∷ []) Post $ alloc_all ! (λ l. pass_all ! refl (box_typed E h b o fits, tt) $ sets ! (of_opd ! (get ! refl)) refl
    (box_typed E h b o fits) $
    calls_at ! (framed 𝓤 𝓛.H 𝓜 𝓣) G (met 𝓤 𝓛 𝓜 𝓡 (code.calls-std_alloc::boxed::Box::into_raw_with_allocator 𝓡.env wired) T A L LA g d dd dx
    allocator glued glue) y (and_then ! (get ! refl) (no_more !)) (λ u.
    use1 𝓛 (later (some (λ (r : Ptr × A.Denot). (alive ⊛ ‵ ((Parts E).own_val r (u ∷ [])))
    ⊛ some (λ (_ : (Unit {0} × (Unit {0} × Unit {0})) × Unit {0}).
    ‵ (fsep (fsep ftrue (fsep ftrue ftrue)) ftrue) ⊛ (raw (fact 𝓤 (r.1 ≡ a)) ⊛ ‵ (box_owns (token E.al a) (R E) r.0 v.value))))))
    (id⊢ 𝓤 _) $
    await ! tt $ pick ! (λ r. split ! $ move ! (1 ∷ []) $ pick ! (λ _. split3 ! $ drop ! $ heard ! (r.1 ≡ a) (λ ea.
    in_a_block ! r.0 (λ p. box_owns (token E.al a) (R E) p v.value) (fst∗ 𝓤 (never 𝓤) (sem 𝓛 (token E.al a (bare (τ E)) null_ptr)))
    (λ b' o' e'.
    rewrite ! 0 (λ (s : A.Denot). ‵ (box_owns (token E.al s) (R E) (block_ptr b' o') v.value)) (sym ea) refl $
    move ! (1 ∷ []) $ split ! $ move ! (1 ∷ []) $ parts_out E ! r.0 r.1 (u ∷ []) (λ h' eu fits'.
    -- [the handle; the tokens; what the box owned]
    lands_as ! (ap only (subst (λ (p : Ptr). u ∷ [] ≡ vstruct (of_list (ptr_val p ∷ h' ∷ [])) ∷ []) e' eu)) refl
    (box_typed E h' b' o' fits') $
    sets ! (agg ! (and_then ! (get ! refl) (no_more !))) refl (shell_typed E h' b' o' fits') $ returns ! (look_at ! 0 refl) $ free_all !
    refl $
    move ! (0 ∷ 2 ∷ []) $ loose_in E ! b' o' h' r.1 v.value $
    use0 𝓛 (raw (fact 𝓤 (v.value ≡ v.value))) (fact_i 𝓤 (v.value ≡ v.value) (emp 𝓤) refl) $ nothing ! $ nothing ! $ fjoin ! $ keep !
    (3 ∷ 0 ∷ 2 ∷ 1 ∷ []) $
    by ! (leaves 𝓛 F stayed c z (shell E (word E h' b' o')) (record { parts = (block_ptr b' o', r.1); value = v.value })
    ((tt, (tt, tt)), tt) (tt, tt)))))))))))
