-- `out_of` writes the pointer and the allocator back, with all that they own.
use Rattle.sysmem.proofs.Common.{ !, B, D, Goes-dropped, List, Option, SProp, Some, State, Stays, Val, WpFn, [], agg, alloc_all, and_then}
use Rattle.sysmem.proofs.Common.{block_ptr, box_out, box_typed, by, drop, emp, ent, enter, fact, fact_i, fjoin, fld, free_all, fsep}
use Rattle.sysmem.proofs.Common.{fsplit, ftrue, get, get_in, heard, id⊢, keep, leaves, look_at, move, no_more, nothing, of_opd, pass_all}
use Rattle.sysmem.proofs.Common.{proved_at, qed, raw, refl, returns, rewrite, sets, split, stay_dropped, stop, sub, subst, suffices, sym}
use Rattle.sysmem.proofs.Common.{tables, use0, use1, walk_of, whole, word, yes, ‵, ◌$◌, ◌++◌, ◌∵◌, ◌∷◌, ◌≡◌, ◌⊛◌}
use Rattle.std.specs.Prelude.{is_some, true}
use Rattle.sysmem.proofs.CoreBox.{E, Kept, Loosened, a_place}
use Rattle.sysmem.proofs.Unboxing.{shell, shell_typed, loose_in}
use Rattle.sysmem.proofs.place.out_of.Statement.{statement}
use Rattle.sysmem.specs.contracts.place.out_of.{ended, clauses}
use Rattle.sysmem.specs.contracts.place.out_of.Key.{name}
use Rattle.sm_names.proofs.SamenessLaws.{some_is}
use Rattle.sysmem.proofs.place.out_of.Code as code

abbrev stayed : Stays ended.signature.params ended.kept
stayed = (stay_dropped a_place yes, tt)

pub out_of_spec : {M : Type 1} → statement M
out_of_spec 𝓤 𝓛 𝓜 𝓡 wired =
    let c = clauses 𝓛 𝓜.mem 𝓡.returns in let 𝓣 = tables 𝓤 𝓛.H 𝓜 𝓡 𝓡.env in
    proved_at 𝓛 ended stayed c 𝓜 𝓡 (Goes-dropped 𝓛 0 a_place yes (λ κs x f. refl), tt) name code.function (code.unfolded 𝓤 𝓛.H 𝓜 𝓡 wired)
    (λ z are.
    let p = z.0.3.0.at in let a = z.0.3.0.alloc in let had = z.0.3.0.core in
    let Post : Val → SProp 𝓤 =
    (walk_of 𝓛 ended stayed c).post z in let Runs : List Val → SProp 𝓤 = λ ws. WpFn 𝓤 𝓛.H 𝓣.C 𝓣.Λ code.function ws Post in
    let keeping : Option State → Kept.Denot = λ o. record { at = p; alloc = a; core = o } in
    qed 𝓛 ((‵ ftrue ⊛ ‵ (fsep (Kept.own_val (keeping had) z.0.4.0) ftrue)) ∷ raw (fact 𝓤 (is_some had ≡ true)) ∷ []) ∵ move ! (1 ∷ []) $
    heard ! (is_some had ≡ true) (λ there.
    let x = (some_is had there).0 in let is = (some_is had there).1 in let boxed : D E = record { ptr = p; alloc = a; value = x } in
    split ! $ drop ! $ fsplit ! $ rewrite ! 0 (λ (o : Option State). ‵ (Kept.own_val (keeping o) z.0.4.0)) is refl $ use1 𝓛
    (‵ ((B E).own_val boxed z.0.4.0)) (id⊢ 𝓤 _) $
    box_out E ! boxed z.0.4.0 (λ b o h e ws fits.
    let w = word E h b o in let made : Loosened.Denot = record { parts = (block_ptr b o, a); value = x } in
    fjoin ! $ move ! (1 ∷ 0 ∷ []) $ loose_in E ! b o h a x $ use1 𝓛 (‵ (Loosened.own_val made (shell E w ∷ []))) (id⊢ 𝓤 _) $ keep ! (0 ∷ [])
    $
    suffices ! (Runs (w ∷ [])) (subst (λ (us : List Val). ent 𝓤 (Runs (w ∷ [])) (Runs us)) (sym (λ i. ws i ++ [])) (id⊢ 𝓤 (Runs (w ∷ []))))
    $
    enter ! 𝓣.C 𝓣.Λ code.function (w ∷ []) Post $ alloc_all ! (λ l. pass_all ! refl (box_typed E h b o fits, tt) $
    sets ! (of_opd ! (get_in ! (fld ! refl (stop !)) (sub ! 0 refl (whole !)))) refl (tt, tt) $ sets !
    (of_opd ! (get_in ! (fld ! refl (stop !)) (sub ! 1 refl (whole !)))) refl fits $
    sets ! (of_opd ! (get ! refl)) refl (tt, tt) $ sets ! (agg ! (and_then ! (get ! refl) (and_then ! (get ! refl) (no_more !)))) refl
    (box_typed E h b o fits) $
    sets ! (agg ! (and_then ! (get ! refl) (no_more !))) refl (shell_typed E h b o fits) $
    returns ! (look_at ! 0 refl) $ free_all ! refl $
    use0 𝓛 (raw (fact 𝓤 (had ≡ Some x))) (fact_i 𝓤 (had ≡ Some x) (emp 𝓤) is) $ nothing ! $ nothing ! $ fjoin ! $ nothing ! $ keep !
    (0 ∷ 1 ∷ 3 ∷ 2 ∷ []) $
    by ! (leaves 𝓛 ended stayed c z (shell E w) made (tt, tt) (tt, tt))))))
