-- What the parts of a box own, and their machine values, at the box E. Assumes `Logic`.
--     Parts, parts_out, parts_in     the pointer and the allocator as a pair. Its value is told by the pointer and by the allocator's bits
--     Loose, loose_out, loose_in     the same with what the box owned
use Rattle.sysmem.proofs.Common.{Bx, List, P, Ptr, R, RattleType, RawPtr, Val, Valss, WT, [], and_tt, block_ptr, box_owns, box_typed}
use Rattle.sysmem.proofs.Common.{drop, feq_i, fjoin, fpack, fsplit, fst∗, handle_tells, has_ty, in_a_block, move, never, nothing}
use Rattle.sysmem.proofs.Common.{null_ptr, of_list, ptr_val, refl, sem, shape, subst, tnil, token, vcons, vnil, vptr, vstruct, within}
use Rattle.sysmem.proofs.Common.{word, τ, ‵, ◌$◌, ◌++◌, ◌∷◌, ◌≡◌}
use mathlib.Core.Path.{◌∙◌}
use Prim.Native.Nat.{ℕ}
use lib.Dec.{T}
use seplogic.Ra.Ura.{Ura}
use mir.Raw.{raw as bare}
use mir.Syntax.{ty_struct, ty_ptr, tcons}
use types.Logic.{Logic}
use types.Kit.{Item, Goal, Seq, Step, step, fpick, feq_l}
use denote.Struct.Tuple.{Tuple, tuple_type}
use Rattle.std.proofs.alloc.Calls.{Fits, α}
use Rattle.std_alloc.proofs.BoxSteps.Form.{handle}
use denote.Struct.Declared as declared
use Rattle.sysmem.specs.contracts.raw.Unboxed as unboxed

module _ (E : Bx) where
  -- the type of the pair of the pointer and the allocator
  abbrev pub Parts : RattleType
  Parts = Tuple (RawPtr ∷ P E ∷ [])

  -- the type of the pair together with the value that the box owned
  abbrev pub Loose : RattleType
  Loose = unboxed.the_row (R E) (P E) E.al.g

  -- a struct of one field
  abbrev pub shell : Val → Val
  shell w = vstruct (vcons w vnil)

  -- for a fitting allocator, the value of the parts in a struct of one field is well typed
  pub shell_typed : (h : Val) (b o : ℕ) → Fits E.al h →
      T (has_ty (ty_struct [] (tcons (ty_struct [] (tcons ty_ptr (tcons (α E.al) tnil))) tnil)) (shell (word E h b o))) ×
      WT (shell (word E h b o))
  shell_typed h b o fits = let typed = box_typed E h b o fits in (and_tt _ typed.0, (typed.1, tt))

  module _ {M : Type 1} {𝓤 : Ura M} {𝓛 : Logic 𝓤} {K : Type 0} {Γ : List (Item 𝓤)} {G : Goal 𝓤 𝓛.H} where
    -- the ownership of the parts tells their machine value and leaves the allocator's handle
    pub parts_out : K → (p : Ptr) (a : E.al.row.Denot) (us : List Val)
        → ((h : Val) → us ≡ vstruct (of_list (ptr_val p ∷ h ∷ [])) ∷ [] → Fits E.al h → Seq K 𝓛 (‵ (handle E a h) ∷ Γ) G)
        → Seq K 𝓛 (‵ (Parts.own_val (p, a) us) ∷ Γ) G
    parts_out t p a us k =
        fpick t (λ vss. fsplit t $ feq_l t (λ eu. fsplit t $ feq_l t (λ ep. fsplit t $ handle_tells E.al t a vss.1.0 (λ h eh fits.
        move t (1 ∷ []) $ drop t $ k h (eu ∙ (λ j. vstruct (of_list (ep j ++ (eh j ++ []))) ∷ [])) fits))))

    -- the allocator's handle and the pointer to a block make up the owned parts
    pub parts_in : K → (b o : ℕ) (h : Val) (a : E.al.row.Denot) →
        Step K 𝓛 (‵ (Parts.own_val (block_ptr b o, a) (word E h b o ∷ [])) ∷ Γ) G (‵ (handle E a h) ∷ Γ) G
    parts_in t b o h a = step (λ s. let w = word E h b o in
        nothing t $ move t (1 ∷ 0 ∷ []) $ fjoin t $ feq_i t (List Val) (vptr b o ∷ []) (vptr b o ∷ []) refl $ fjoin t $ feq_i t (List Val)
        (w ∷ []) (w ∷ []) refl $ fjoin t $
        fpack t (Valss (RawPtr ∷ P E ∷ [])) (within (declared.shape (tuple_type (RawPtr ∷ P E ∷ []))) (block_ptr b o, (a, tt)) (w ∷ []))
        (vptr b o ∷ [], (h ∷ [], tt)) $ s)

  module _ {M : Type 1} {𝓤 : Ura M} {𝓛 : Logic 𝓤} {K : Type 0} {Γ : List (Item 𝓤)} {G : Goal 𝓤 𝓛.H} where
    -- the ownership of a loosened box splits into its block's and the allocator's handle
    pub loose_out : K → (d : Loose.Denot) (vs : List Val)
        → ((b o : ℕ) (h : Val) → d.parts.0 ≡ block_ptr b o → vs ≡ shell (word E h b o) ∷ [] → Fits E.al h
        → Seq K 𝓛 (‵ (box_owns (token E.al d.parts.1) (R E) (block_ptr b o) d.value) ∷ ‵ (handle E d.parts.1 h) ∷ Γ) G)
        → Seq K 𝓛 (‵ (Loose.own_val d vs) ∷ Γ) G
    loose_out t d vs k =
        fsplit t $ fpick t (λ vss. fsplit t $ feq_l t (λ ev. fsplit t $ parts_out t d.parts.0 d.parts.1 vss.0 (λ h ep fits.
        move t (1 ∷ []) $ drop t $ move t (1 ∷ []) $
        in_a_block t d.parts.0 (λ p. box_owns (token E.al d.parts.1) (R E) p d.value)
        (fst∗ 𝓤 (never 𝓤) (sem 𝓛 (token E.al d.parts.1 (bare (τ E)) null_ptr))) (λ b o e. k b o h e
        (subst (λ (p : Ptr). vs ≡ shell (vstruct (of_list (ptr_val p ∷ h ∷ []))) ∷ []) e (ev ∙ (λ j. vstruct (of_list (ep j ++ [])) ∷ [])))
        fits))))

    -- the block with the value and the allocator's handle make up the loosened box
    pub loose_in : K → (b o : ℕ) (h : Val) (a : E.al.row.Denot) (x : E.row.Denot)
        → Step K 𝓛 (‵ (Loose.own_val (record { parts = (block_ptr b o, a); value = x }) (shell (word E h b o) ∷ [])) ∷ Γ) G
        (‵ (handle E a h) ∷ ‵ (box_owns (token E.al a) (R E) (block_ptr b o) x) ∷ Γ) G
    loose_in t b o h a x = step (λ s. let u = shell (word E h b o) in
        parts_in t b o h a $ nothing t $ move t (1 ∷ 0 ∷ []) $ fjoin t $ feq_i t (List Val) (u ∷ []) (u ∷ []) refl $ fjoin t $
        fpack t (Valss (Parts ∷ [])) (within (shape (unboxed.the_type (R E) (P E) E.al.g)) ((block_ptr b o, (a, tt)), tt) (u ∷ []))
        (word E h b o ∷ [], tt) $ fjoin t $ s)
