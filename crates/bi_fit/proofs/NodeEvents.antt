use Rattle.std.proofs.Common.{◌≡◌, ℕ, List, ◌∷◌, ◌++◌, Option, Some, None, refl, sym, ap, subst, ◌∙◌, append_assoc}
use Rattle.bi_blob.specs.Tree.{Nodes, none, node, Property}
use Rattle.bi_blob.specs.Lookups.{Sibling, node_at}
use Rattle.bi_blob.specs.Events.{NodeStart, events}
use Rattle.bi_lay.specs.Contents.{Doc}
use Rattle.bi_fit.specs.NormalNodes.{with_events, MayAdd}
use Rattle.bi_fit.proofs.AddedEvents.{with_events-none, with_events-append, MayAdd-front, MayAdd-back}

-- The first of the nodes that are left to be added to a document may be added, then the others are left, and in the end the document has
-- all of them.

-- The nodes from a node on, if there is one.
abbrev pub nodes_from : {Own : Type 0} → Option (Sibling Own) → Nodes Own
nodes_from None = none
nodes_from (Some sibling) = node sibling.name sibling.own sibling.children sibling.later

-- From the first on they are all.
pub nodes_from_first : {Own : Type 0} (nodes : Nodes Own) → nodes_from (node_at nodes 0) ≡ nodes
nodes_from_first none = refl
nodes_from_first (node name own children later) = refl

-- The events of a node and of those after it.
events-first : (name : List ℕ) (own : List Property) (children later : Nodes (List Property)) →
    events (node name own children later) ≡ events (node name own children none) ++ events later
events-first name own children later = ap (λ l. NodeStart name ∷ l) (simp append_assoc refl)

-- Nodes are left to be added to a document, which it may be, and it is another with them.
pub record IsAdding (document target : Doc) (left : Nodes (List Property)) : Type 0 where
  pub added : with_events document (events left) ≡ target
  pub may : MayAdd document (events left)

-- At first it is all of them.
pub adding_all : (document : Doc) (nodes : Nodes (List Property)) → MayAdd document (events nodes) →
    IsAdding document (with_events document (events nodes)) nodes
adding_all document nodes may = record { added = refl; may = may }

-- In the end it is none.
pub adding_none : (document target : Doc) → IsAdding document target none → document ≡ target
adding_none document target adding = sym (with_events-none document) ∙ adding.added

module _ (document target : Doc) (name : List ℕ) (own : List Property) (children later : Nodes (List Property))
    (adding : IsAdding document target (node name own children later)) where
  -- The first of them may be added,
  pub may_add_first : MayAdd document (events (node name own children none))
  may_add_first =
      MayAdd-front document (events (node name own children none)) (events later)
      (subst (MayAdd document) (events-first name own children later) adding.may)

  -- and then the others are left.
  pub adding_later : (more : Doc) → more ≡ with_events document (events (node name own children none)) → IsAdding more target later
  adding_later more is = record {
    added = ap (λ document. with_events document (events later)) is
        ∙ with_events-append document (events (node name own children none)) (events later)
        ∙ ap (with_events document) (sym (events-first name own children later))
        ∙ adding.added;
    may = subst (λ document. MayAdd document (events later)) (sym is)
        (MayAdd-back document (events (node name own children none)) (events later)
        (subst (MayAdd document) (events-first name own children later) adding.may));
  }
