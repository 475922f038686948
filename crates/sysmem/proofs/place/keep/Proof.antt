-- `keep` writes the pointer and the allocator elsewhere, with all that they own.
use Rattle.sysmem.proofs.Common.{ !, D, Goes-dropped, List, SProp, Some, Stays, Val, WpFn, [], agg, alloc_all, and_then, block_ptr, box_in}
use Rattle.sysmem.proofs.Common.{box_typed, by, drop, emp, ent, enter, fact, fact_i, fjoin, fld, free_all, fsep, fsplit, ftrue, get}
use Rattle.sysmem.proofs.Common.{get_in, id⊢, keep, leaves, look_at, no_more, nothing, of_opd, pass_all, proved_at, qed, raw, refl}
use Rattle.sysmem.proofs.Common.{returns, sets, split, stay_dropped, stop, sub, subst, suffices, sym, tables, use0, use1, walk_of, whole}
use Rattle.sysmem.proofs.Common.{word, yes, ‵, ◌$◌, ◌++◌, ◌∵◌, ◌∷◌, ◌≡◌, ◌⊛◌}
use Rattle.sysmem.proofs.CoreBox.{E, Kept, a_loosened}
use Rattle.sysmem.proofs.Unboxing.{Loose, shell, shell_typed, loose_out}
use Rattle.sysmem.proofs.place.keep.Statement.{statement}
use Rattle.sysmem.specs.contracts.place.keep.{ended, clauses}
use Rattle.sysmem.specs.contracts.place.keep.Key.{name}
use Rattle.sysmem.proofs.place.keep.Code as code

abbrev stayed : Stays ended.signature.params ended.kept
stayed = (stay_dropped a_loosened yes, tt)

pub keep_spec : {M : Type 1} → statement M
keep_spec 𝓤 𝓛 𝓜 𝓡 wired =
    let c = clauses 𝓛 𝓜.mem 𝓡.returns in let 𝓣 = tables 𝓤 𝓛.H 𝓜 𝓡 𝓡.env in
    proved_at 𝓛 ended stayed c 𝓜 𝓡 (Goes-dropped 𝓛 0 a_loosened yes (λ κs x f. refl), tt) name code.function (code.unfolded 𝓤 𝓛.H 𝓜 𝓡 wired)
    (λ z are.
    let a = z.0.3.0.parts.1 in let x = z.0.3.0.value in let v : (Loose E).Denot = record { parts = (z.0.3.0.parts.0, a); value = x } in
    let Post : Val → SProp 𝓤 =
    (walk_of 𝓛 ended stayed c).post z in let Runs : List Val → SProp 𝓤 = λ ws. WpFn 𝓤 𝓛.H 𝓣.C 𝓣.Λ code.function ws Post in
    qed 𝓛 ((‵ ftrue ⊛ ‵ (fsep ((Loose E).own_val v z.0.4.0) ftrue)) ∷ raw (emp 𝓤) ∷ []) ∵ split ! $ drop ! $ fsplit ! $ loose_out E ! v
    z.0.4.0 (λ b o h e ws fits.
    let w = word E h b o in let boxed : D E = record { ptr = block_ptr b o; alloc = a; value = x } in let made : Kept.Denot =
    record { at = block_ptr b o; alloc = a; core = Some x } in
    fsplit ! $ box_in E ! boxed b o x refl refl $ use1 𝓛 (‵ (Kept.own_val made (w ∷ []))) (id⊢ 𝓤 _) $ keep ! (0 ∷ []) $
    suffices ! (Runs (shell E w ∷ [])) (subst (λ (us : List Val). ent 𝓤 (Runs (shell E w ∷ [])) (Runs us)) (sym (λ i. ws i ++ []))
    (id⊢ 𝓤 (Runs (shell E w ∷ [])))) $
    enter ! 𝓣.C 𝓣.Λ code.function (shell E w ∷ []) Post $ alloc_all ! (λ l. pass_all ! refl (shell_typed E h b o fits, tt) $
    sets ! (of_opd ! (get_in ! (fld ! refl (fld ! refl (stop !))) (sub ! 0 refl (sub ! 0 refl (whole !))))) refl (tt, tt) $
    sets ! (of_opd ! (get_in ! (fld ! refl (fld ! refl (stop !))) (sub ! 1 refl (sub ! 0 refl (whole !))))) refl fits $
    sets ! (of_opd ! (get ! refl)) refl (tt, tt) $ sets ! (agg ! (and_then ! (get ! refl) (and_then ! (get ! refl) (no_more !)))) refl
    (box_typed E h b o fits) $
    returns ! (look_at ! 0 refl) $ free_all ! refl $
    use0 𝓛 (raw (fact 𝓤 (made.core ≡ Some x))) (fact_i 𝓤 (made.core ≡ Some x) (emp 𝓤) refl) $ nothing ! $ nothing ! $ fjoin ! $ nothing ! $
    keep ! (0 ∷ 1 ∷ 3 ∷ 2 ∷ []) $
    by ! (leaves 𝓛 ended stayed c z w made (tt, tt) (tt, tt)))))
