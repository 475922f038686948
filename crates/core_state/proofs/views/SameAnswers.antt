-- A core's state is answered as the marks are.
use Rattle.core_state.proofs.Common.{Bool, Bound, Call, Grows, IsAfter, IsAnswer, NodeKey, None, Option, Readings, Reply, Some, State}
use Rattle.core_state.proofs.Common.{Timeline, [], answer, ap, both_ways, either_way, false, inl, inr, key_told, new_key, option_map_or}
use Rattle.core_state.proofs.Common.{readings, readings_of, refl, ℕ, ◌∙◌, ◌≡◌}
use Rattle.core_state.proofs.views.Readings.{readings_are, was_given}

-- no answer reads which keys were given
answer-given : (limits : Bound) (r : Readings) (told : NodeKey → Bool) (client : ℕ) (new : NodeKey) (call : Call) →
    answer limits r client new call ≡ answer limits (record r { was_given = told }) client new call
answer-given limits r told client new Call.Join = refl
answer-given limits r told client new _ = refl

module _ (s : State) (marks : Timeline) (shown : IsAfter s marks) (bounds : Bound) (grown : Grows s.pool bounds [] marks) where
  -- so the state and the marks answer alike
  pub answers_are : (limits : Bound) (client : ℕ) (new : NodeKey) (call : Call) →
      answer limits (readings_of s) client new call ≡ answer limits (readings marks) client new call
  answers_are limits client new call =
      answer-given limits (readings_of s) (readings marks).was_given client new call
      ∙ ap (λ (r : Readings). answer limits r client new call) (readings_are s marks shown bounds grown)

  -- and an answer to the state is one to the marks
  pub answer_is : (limits : Bound) (client : ℕ) (call : Call) (reply : Reply) → IsAnswer limits (readings_of s) client call reply →
      IsAnswer limits (readings marks) client call reply
  answer_is limits client call reply is = record {
    told = is.told ∙ answers_are limits client (key_told reply) call;
    is_new = new (new_key reply) is.is_new;
  }
    where
      new : (o : Option NodeKey) → option_map_or (readings_of s).was_given o false ≡ false →
          option_map_or (readings marks).was_given o false ≡ false
      new None h = refl
      new (Some key) h = elim (either_way ((readings marks).was_given key)) [
        | inl e ↦ both_ways ((readings_of s).was_given key) (was_given s marks shown key e) h
        | inr e ↦ e
      ]
