-- `nowhere` writes null beside the allocator, and owns nothing.
use Rattle.sysmem.proofs.Common.{ !, Goes-dropped, List, None, P, RawPtr, SProp, Stays, Val, Valss, WpFn, [], agg, alloc_all, and_then}
use Rattle.sysmem.proofs.Common.{and_tt, by, drop, emp, ent, enter, fact, fact_i, feq_i, fjoin, fpack, free_all, fsep, fsplit, ftrue, get}
use Rattle.sysmem.proofs.Common.{handle_tells, id⊢, keep, leaves, look_at, move, no_more, nothing, null_ptr, pass_all, proved_at, qed}
use Rattle.sysmem.proofs.Common.{raw, refl, returns, sets, shape, split, stay_dropped, subst, suffices, sym, tables, use0, use1, vcons}
use Rattle.sysmem.proofs.Common.{vnil, vstruct, walk_of, within, yes, ‵, ◌$◌, ◌++◌, ◌∵◌, ◌∷◌, ◌≡◌, ◌⊛◌}
use lib.Dec.{lit<}
use mir.Val.{vnull}
use types.Run.{lit}
use Rattle.std_alloc.proofs.BoxSteps.Form.{owning}
use Rattle.sysmem.proofs.CoreBox.{E, Handle, Kept, a_handle}
use Rattle.sysmem.proofs.place.nowhere.Statement.{statement}
use Rattle.sysmem.specs.contracts.place.nowhere.{ended, clauses}
use Rattle.sysmem.specs.contracts.place.nowhere.Key.{name}
use Rattle.sysmem.proofs.place.nowhere.Code as code

abbrev stayed : Stays ended.signature.params ended.kept
stayed = (stay_dropped a_handle yes, tt)

pub nowhere_spec : {M : Type 1} → statement M
nowhere_spec 𝓤 𝓛 𝓜 𝓡 wired =
    let c = clauses 𝓛 𝓜.mem 𝓡.returns in let 𝓣 = tables 𝓤 𝓛.H 𝓜 𝓡 𝓡.env in
    proved_at 𝓛 ended stayed c 𝓜 𝓡 (Goes-dropped 𝓛 0 a_handle yes (λ κs x f. refl), tt) name code.function (code.unfolded 𝓤 𝓛.H 𝓜 𝓡 wired)
    (λ z are.
    let a = z.0.3.0 in let Post : Val → SProp 𝓤 =
    (walk_of 𝓛 ended stayed c).post z in let Runs : List Val → SProp 𝓤 = λ ws. WpFn 𝓤 𝓛.H 𝓣.C 𝓣.Λ code.function ws Post in
    let made : Kept.Denot = record { at = null_ptr; alloc = a; core = None } in
    qed 𝓛 ((‵ ftrue ⊛ ‵ (fsep (Handle.own_val a z.0.4.0) ftrue)) ∷ raw (emp 𝓤) ∷ []) ∵ split ! $ drop ! $ fsplit ! $ handle_tells E.al ! a
    z.0.4.0 (λ h eh fits. keep ! (0 ∷ []) $
    suffices ! (Runs (h ∷ [])) (subst (λ (us : List Val). ent 𝓤 (Runs (h ∷ [])) (Runs us)) (sym (λ i. eh i ++ [])) (id⊢ 𝓤 (Runs (h ∷ []))))
    $
    enter ! 𝓣.C 𝓣.Λ code.function (h ∷ []) Post $ alloc_all ! (λ l. pass_all ! refl (fits, tt) $
    sets ! (agg ! (and_then ! (lit ! tt) (and_then ! (get ! refl) (no_more !)))) refl
    (and_tt _ fits.0, (record { fits = lit< tt }, (fits.1, tt))) $
    returns ! (look_at ! 0 refl) $ free_all ! refl $
    -- [the handle]
    let w = vstruct (vcons vnull (vcons h vnil)) in
    nothing ! $ nothing ! $ move ! (2 ∷ 0 ∷ []) $ fjoin ! $ feq_i ! (List Val) (vnull ∷ []) (vnull ∷ []) refl $ fjoin ! $ feq_i ! (List Val)
    (w ∷ []) (w ∷ []) refl $ fjoin ! $
    fpack ! (Valss (RawPtr ∷ P E ∷ [])) (within (shape (owning E)) (null_ptr, (a, tt)) (w ∷ [])) (vnull ∷ [], (h ∷ [], tt)) $ fjoin ! $ use1
    𝓛 (‵ (Kept.own_val made (w ∷ []))) (id⊢ 𝓤 _) $
    use0 𝓛 (raw (fact 𝓤 (made.core ≡ None))) (fact_i 𝓤 (made.core ≡ None) (emp 𝓤) refl) $ nothing ! $ nothing ! $ fjoin ! $ nothing ! $ keep
    ! (0 ∷ 1 ∷ 3 ∷ 2 ∷ []) $
    by ! (leaves 𝓛 ended stayed c z w made (tt, tt) (tt, tt)))))
