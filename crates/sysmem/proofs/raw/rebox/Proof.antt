-- `rebox` hands the parts, with what the box owned, to `from_raw`.
use Rattle.sysmem.proofs.Common.{ !, Args, B, Bx, Goes-blank, List, SProp, Stays, Val, WT, WpFn, [], a_type, alloc_all, and_then, ap}
use Rattle.sysmem.proofs.Common.{await, block_ptr, bounded, box_in, box_out, box_typed, by, dcons, dnil, drop, ent, enter, fact, feq_i}
use Rattle.sysmem.proofs.Common.{fjoin, fld, flft, framed, free_all, fsep, fsplit, ftrue, get, get_in, has_ty, id⊢, inst_fn, join, keep}
use Rattle.sysmem.proofs.Common.{later, leaves, look_at, move, no, no_more, nothing, of_opd, only, owns, pass_all, pick, plain, proved_at}
use Rattle.sysmem.proofs.Common.{qed, raw, refl, returns, rewrite, sets, some, split, split3, stay_dropped, stop, sub, subst, suffices}
use Rattle.sysmem.proofs.Common.{sym, tables, triple_of, types_at, use1, vptr, walk_of, whole, word, ‵, ◌$◌, ◌++◌, ◌∵◌, ◌∷◌, ◌≡◌, ◌⊛◌}
use lib.Dec.{T as Holds}
use contract.BorrowLft.{◌⊑◌}
use types.Kit.{at_ret}
use types.Run.{first, blocks, exec}
use types.ByLocal.{lands_last, env}
use denote.Triple.Call.{calls_at_last}
use Rattle.std_alloc.proofs.BoxSteps.Form.{box_ty}
use Rattle.std_alloc.proofs.boxed.Box.from_raw.Met.{met}
use Rattle.sysmem.proofs.Unboxing.{Loose, shell, shell_typed, loose_out}
use Rattle.sysmem.proofs.raw.rebox.Statement.{statement}
use Rattle.sysmem.specs.contracts.raw.rebox.{ended, clauses}
use Rattle.sysmem.specs.contracts.raw.rebox.Key.{name}
use Rattle.std_alloc.specs.contracts.boxed.Box.from_raw as called
use Rattle.sysmem.proofs.raw.rebox.Code as code

pub rebox_spec : {M : Type 1} → statement M
rebox_spec 𝓤 𝓛 𝓜 𝓡 wired T A L LA g d dd allocator glued =
    let E : Bx = record { row = T; laws = L; al = record { row = A; laws = LA; g = g; d = d; drops = dd } } in
    let args : Args = bounded (a_type ∷ a_type ∷ []) (T, (A, tt)) (dcons d (dcons dd dnil)) in
    let fn = inst_fn args code.function in let 𝓣 = tables 𝓤 𝓛.H 𝓜 𝓡 𝓡.env in
    let F = ended T A g d dd in let c = clauses T A g d dd 𝓛 𝓜.mem 𝓡.returns in
    let stayed : Stays F.signature.params F.kept = (stay_dropped (plain (λ _. Loose E)) no, tt) in
    let G = triple_of 𝓛 (called.signature T A g d dd) (called.spec T A g d dd 𝓛 𝓜.mem 𝓡.returns) in
    proved_at 𝓛 F stayed c 𝓜 𝓡 (Goes-blank 𝓛 2 (plain (λ _. Loose E)) no (λ κs x f. tt), tt) (name args) fn (code.unfolded 𝓤 𝓛.H 𝓜 𝓡 wired
    (T, (A, tt)) d dd) (λ z are.
    let κs = z.0.0 in let qs = z.0.1 in let v = z.0.3.0 in let a = v.parts.1 in
    let Post : Val → SProp 𝓤 = (walk_of 𝓛 F stayed c).post z in let Runs : List Val → SProp 𝓤 = λ ws. WpFn 𝓤 𝓛.H 𝓣.C 𝓣.Λ fn ws Post in
    let alive = ‵ (flft κs.0 qs.0) ⊛ ‵ (flft κs.1.0 qs.1.0) ⊛ ‵ ftrue in let in_T =
    raw (fact 𝓤 (κs.0 ⊑ T.lives)) in let in_A = raw (fact 𝓤 (κs.1.0 ⊑ A.lives)) in
    qed 𝓛 ((alive ⊛ ‵ (owns (types_at F.signature.params κs) z.0.3 z.0.4)) ∷ raw ((c κs z.0.3).requires z.1) ∷ []) ∵ split ! $ move !
    (1 ∷ []) $ fsplit ! $
    loose_out E ! v z.0.4.0 (λ b o h e ws fits.
    let w = word E h b o in let y : G.Ghost = ((κs, qs, tt, (a, (block_ptr b o, tt)), (h ∷ [], (vptr b o ∷ [], tt))), v.value) in
    -- [what the box owned; the handle; true; the tokens; the lifetimes' facts]
    move ! (4 ∷ []) $ use1 𝓛 (in_T ⊛ in_A ⊛ ‵ ftrue) (id⊢ 𝓤 _) $ split3 ! $ move ! (2 ∷ []) $ drop ! $ move ! (1 ∷ 2 ∷ []) $ join ! $ move !
    (1 ∷ 0 ∷ []) $ join ! $
    move ! (2 ∷ []) $ feq_i ! (List Val) (vptr b o ∷ []) (vptr b o ∷ []) refl $ fjoin ! $ move ! (2 ∷ 0 ∷ []) $ fjoin ! $ move !
    (2 ∷ 0 ∷ []) $ join ! $ join ! $ use1 𝓛 (raw (G.pre y)) (id⊢ 𝓤 _) $
    suffices ! (Runs (shell E w ∷ [])) (subst (λ (us : List Val). ent 𝓤 (Runs (shell E w ∷ [])) (Runs us)) (sym (λ i. ws i ++ []))
    (id⊢ 𝓤 (Runs (shell E w ∷ [])))) $
    enter ! 𝓣.C 𝓣.Λ fn (shell E w ∷ []) Post $ alloc_all ! (λ l. let Env = env fn.locals l in
    pass_all ! refl (shell_typed E h b o fits, tt) $
    sets ! (of_opd ! (get_in ! (fld ! refl (fld ! refl (stop !))) (sub ! 0 refl (sub ! 0 refl (whole !))))) refl (tt, tt) $
    sets ! (of_opd ! (get_in ! (fld ! refl (fld ! refl (stop !))) (sub ! 1 refl (sub ! 0 refl (whole !))))) refl fits $
    first ! $ blocks ! $ sets ! (of_opd ! (get ! refl)) refl fits $
    calls_at_last ! (framed 𝓤 𝓛.H 𝓜 𝓣) G (met 𝓤 𝓛 𝓜 𝓡 (code.calls-std_alloc::boxed::Box::from_raw 𝓡.env wired) T A L LA g d dd allocator
    glued) y (and_then ! (get ! refl) (and_then ! (get ! refl) (no_more !))) (λ u.
    use1 𝓛 (later (some (λ (r : (B E).Denot). (alive ⊛ ‵ ((B E).own_val r (u ∷ [])))
    ⊛ some (λ (_ : Unit {0} × (Unit {0} × Unit {0})).
    ‵ (fsep ftrue (fsep ftrue ftrue)) ⊛ (raw (fact 𝓤 (r.value ≡ v.value)) ⊛ raw (fact 𝓤 (r.alloc ≡ a))))))) (id⊢ 𝓤 _) $
    await ! tt $ pick ! (λ r. split ! $ move ! (1 ∷ []) $ pick ! (λ _. split3 ! $ drop ! $ move ! (1 ∷ []) $ drop ! $ move ! (1 ∷ []) $
    split ! $ move ! (1 ∷ []) $
    -- [the box; the tokens; that the values are one]
    box_out E ! r (u ∷ []) (λ b' o' h' e' us fits'. box_in E ! r b' o' r.value e' refl $ rewrite ! 0 (λ (xs : List Val).
    ‵ ((B E).own_val r xs)) (sym us) refl $
    let typed = subst (λ (x : Val). Holds (has_ty (box_ty E) x) × WT x) (sym (ap only us)) (box_typed E h' b' o' fits') in
    lands_last ! refl typed $ exec ! 𝓣.C 𝓣.Λ Env code.Mir.t-4 (at_ret Env Post) $ sets ! (of_opd ! (get ! refl)) refl typed $ returns !
    (look_at ! 0 refl) $ free_all ! refl $
    nothing ! $ nothing ! $ fjoin ! $ keep ! (2 ∷ 0 ∷ 1 ∷ 3 ∷ []) $
    by ! (leaves 𝓛 F stayed c z u r (((tt, (tt, tt)), tt), tt) (tt, tt)))))))))
