-- Texts that are put one behind the other.
use Rattle.std.proofs.Common.{◌≡◌, ◌∙◌, ap, sym, append_assoc, append-nil, List, ℕ, [], ◌++◌}

-- the last of some texts, which nothing follows
pub one-more : (old a t u : List ℕ) → t ≡ old ++ a → (b : List ℕ) → u ≡ t ++ b → u ≡ old ++ (a ++ b)
one-more old a t u is b more = more ∙ ap (λ (front : List ℕ). front ++ b) is ∙ append_assoc old a b

-- two texts
pub two : (old a b t u : List ℕ) → t ≡ old ++ a → u ≡ t ++ b → u ≡ old ++ (a ++ (b ++ []))
two old a b t u is more = one-more old a t u is b more ∙ ap (λ (back : List ℕ). old ++ (a ++ back)) (sym (append-nil b))

-- a text of two, and one more
pub two-and : (old a b c t u : List ℕ) → t ≡ old ++ (a ++ (b ++ [])) → u ≡ t ++ c → u ≡ old ++ (a ++ (b ++ (c ++ [])))
two-and old a b c t u is more =
    two old (a ++ (b ++ [])) c t u is more
    ∙ ap (λ (back : List ℕ). old ++ back) (append_assoc a (b ++ []) (c ++ [])
    ∙ ap (λ (back : List ℕ). a ++ back) (append_assoc b [] (c ++ [])))

-- three texts
pub three : (old a b c t u v : List ℕ) → t ≡ old ++ a → u ≡ t ++ b → v ≡ u ++ c → v ≡ old ++ (a ++ (b ++ (c ++ [])))
three old a b c t u v one next last = two-and old a b c u v (two old a b t u one next) last

-- four texts
pub four : (old a b c d t u v w : List ℕ) → t ≡ old ++ a → u ≡ t ++ b → v ≡ u ++ c → w ≡ v ++ d →
    w ≡ old ++ (a ++ (b ++ (c ++ (d ++ []))))
four old a b c d t u v w one next then last =
    one-more old (a ++ (b ++ (c ++ []))) v w (three old a b c t u v one next then) d last
    ∙ ap (λ (back : List ℕ). old ++ back) (append_assoc a (b ++ (c ++ [])) d
    ∙ ap (λ (back : List ℕ). a ++ back) (append_assoc b (c ++ []) d
    ∙ ap (λ (back : List ℕ). b ++ back) (append_assoc c [] d ∙ ap (λ (back : List ℕ). c ++ back) (sym (append-nil d)))))

-- two texts, and behind them the rest
pub pair-and : (old a b t w rest : List ℕ) → t ≡ old ++ (a ++ (b ++ [])) → w ≡ t ++ rest → w ≡ old ++ (a ++ (b ++ rest))
pair-and old a b t w rest is more =
    one-more old (a ++ (b ++ [])) t w is rest more
    ∙ ap (λ (back : List ℕ). old ++ back) (append_assoc a (b ++ []) rest
    ∙ ap (λ (back : List ℕ). a ++ back) (append_assoc b [] rest))

-- five texts
pub five : (old a b c d e t u v w x : List ℕ) → t ≡ old ++ a → u ≡ t ++ b → v ≡ u ++ c → w ≡ v ++ d → x ≡ w ++ e →
    x ≡ old ++ (a ++ (b ++ (c ++ (d ++ (e ++ [])))))
five old a b c d e t u v w x one next then more last =
    last ∙ ap (λ (front : List ℕ). front ++ e) (four old a b c d t u v w one next then more)
    ∙ (append_assoc old (a ++ (b ++ (c ++ (d ++ [])))) e ∙ ap (λ (back : List ℕ). old ++ back) (flat a b c d e))
  where
    -- the last text stands in the place of nothing
    flat : (a b c d e : List ℕ) → (a ++ (b ++ (c ++ (d ++ [])))) ++ e ≡ a ++ (b ++ (c ++ (d ++ (e ++ []))))
    flat a b c d e = simp (append_assoc, append-nil)

-- a text of three, and two more
pub three-two : (old a b c d e t u v : List ℕ) → t ≡ old ++ (a ++ (b ++ (c ++ []))) → u ≡ t ++ d → v ≡ u ++ e →
    v ≡ old ++ (a ++ (b ++ (c ++ (d ++ (e ++ [])))))
three-two old a b c d e t u v is more last =
    last ∙ ap (λ (front : List ℕ). front ++ e) (more ∙ ap (λ (front : List ℕ). front ++ d) is) ∙ flat old a b c d e
  where
    -- the first three are not a text of their own
    flat : (old a b c d e : List ℕ) → ((old ++ (a ++ (b ++ (c ++ [])))) ++ d) ++ e ≡ old ++ (a ++ (b ++ (c ++ (d ++ (e ++ [])))))
    flat old a b c d e = simp (append_assoc, append-nil)
