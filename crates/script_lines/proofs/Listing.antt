-- Lists of clients, by the words as they are read.
use Rattle.std.proofs.Common.{◌≡◌, ◌==◌, ◌&&◌, ◌||◌, List, ℕ, map, length, refl}
use Rattle.std.specs.List.{list_all, list_any}
use Rattle.std.proofs.lemmas.List.{length-map}
use Rattle.std.proofs.lemmas.List.Folds.{list_all-map}
use Rattle.sm_names.proofs.ListLaws.{list_any-map}
use Rattle.script_lines.specs.declared.label.Label.{Label}
use Rattle.script_lines.specs.ClientLists.{are_clients, is_all, is_among, is_called, says_all}
use denote.Ref.{Bor}

-- `all` is the only word that was read
all_read : (words : List (Bor (List ℕ))) →
    is_all (map (λ word. word.now) words) ≡ (length words == 1 && list_any (λ word. says_all word.now) words)
all_read words =
    rw (length-map words (λ (word : Bor (List ℕ)). word.now))
    (rw (list_any-map says_all (λ word. says_all word.now) (λ (word : Bor (List ℕ)). word.now) words (λ word is. refl)) refl)

-- the client is in the list
pub among_read : (words : List (Bor (List ℕ))) (client : Label) → is_among (map (λ word. word.now) words) client
    ≡ ((length words == 1 && list_any (λ word. says_all word.now) words) || list_any (λ word. is_called client word.now) words)
among_read words client =
    rw (all_read words)
    (rw (list_any-map (is_called client) (λ word. is_called client word.now) (λ (word : Bor (List ℕ)). word.now) words
    (λ word is. refl)) refl)

-- the list is of some of the clients
pub clients_read : (words : List (Bor (List ℕ))) (labels : List Label) → are_clients (map (λ word. word.now) words) labels
    ≡ ((length words == 1 && list_any (λ word. says_all word.now) words)
    || list_all (λ word. list_any (λ (label : Label). is_called label word.now) labels) words)
clients_read words labels =
    rw (all_read words)
    (rw (list_all-map (λ word. list_any (λ (label : Label). is_called label word) labels) (λ (word : Bor (List ℕ)). word.now) words) refl)
