use Rattle.std.specs.Prelude.{◌≡◌, ℕ, List, [], ◌∷◌, ◌++◌, Option, Some, None, refl}
use Rattle.std.proofs.Common.{ap, ◌∙◌, append_assoc}
use Rattle.std.specs.Coded.{Coded, code_by, coded×, coded_list, coded_option, coded_ℕ}
use Rattle.std.specs.FinMap.{code}
use Rattle.bi_blob.specs.Tree.{Nodes, none, node, PropertyMap, Root}

-- Nodes are stored as a list of steps that make them: a step makes a node of the last two lists of
-- nodes that were made, its children and the nodes after it, or an empty list.

-- A step: the name of a node with what it has itself, or nothing.
abbrev pub Step : Type 0 → Type 0
Step Own = Option (List ℕ × Own)

module _ {Own : Type 0} where
  abbrev pub node_steps : Nodes Own → List (Step Own)
  node_steps none = None ∷ []
  node_steps (node name own children later) =
      node_steps children ++ (node_steps later ++ Some (name, own) ∷ [])

  -- The lists of nodes that are made, the last of them first, after steps.
  abbrev pub made_by : List (Step Own) → List (Nodes Own) → List (Nodes Own)
  made_by [] made = made
  made_by (None ∷ steps) made = made_by steps (none ∷ made)
  made_by (Some step ∷ steps) (later ∷ children ∷ made) =
      made_by steps (node step.0 step.1 children later ∷ made)
  made_by (Some step ∷ steps) made = made_by steps made

  -- The last that is made.
  abbrev pub last_made : List (Nodes Own) → Nodes Own
  last_made [] = none
  last_made (last ∷ made) = last

  made_by_steps : (nodes : Nodes Own) (steps : List (Step Own)) (made : List (Nodes Own))
      → made_by (node_steps nodes ++ steps) made ≡ made_by steps (nodes ∷ made)
  made_by_steps none steps made = refl
  made_by_steps (node name own children later) steps made =
      ap (λ all. made_by all made)
      (append_assoc (node_steps children) (node_steps later ++ Some (name, own) ∷ []) steps
      ∙ ap (λ more. node_steps children ++ more)
      (append_assoc (node_steps later) (Some (name, own) ∷ []) steps))
      ∙ made_by_steps children (node_steps later ++ Some (name, own) ∷ steps) made
      ∙ made_by_steps later (Some (name, own) ∷ steps) (children ∷ made)

  pub nodes_made_again : (nodes : Nodes Own) → last_made (made_by (node_steps nodes) []) ≡ nodes
  nodes_made_again none = refl
  nodes_made_again (node name own children later) =
      ap last_made
      (made_by_steps children (node_steps later ++ Some (name, own) ∷ []) []
      ∙ made_by_steps later (Some (name, own) ∷ []) (children ∷ []))

  -- How nodes are stored, by how what each has itself is.
  abbrev pub nodes_code_by : Coded Own → Coded (Nodes Own)
  nodes_code_by own_code =
      code_by (List (Step Own)) (coded_list (coded_option (coded× (coded_list coded_ℕ) own_code)))
      node_steps (λ steps. last_made (made_by steps [])) nodes_made_again

-- How properties by name are stored, and a tree of them.
abbrev pub properties_code : Coded PropertyMap
properties_code = code (coded_list coded_ℕ) (coded_list coded_ℕ)

abbrev pub root_code : Coded (Root PropertyMap)
root_code =
    code_by (PropertyMap × Nodes PropertyMap)
    (coded× properties_code (nodes_code_by properties_code))
    (λ root. (root.own, root.children))
    (λ parts. record { own = parts.0; children = parts.1 })
    (λ _. refl)
