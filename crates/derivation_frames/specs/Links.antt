-- Nodes and links as the code fetches them, and that their words are the record's.
use Rattle.std.specs.Prelude.{ℕ, ◌≡◌}
use Rattle.reader.specs.Tests.{if_lt}
use Rattle.reader.specs.Words.{Reader}
use Rattle.reader.specs.Trees.{lower}
use Rattle.reader.specs.declared.Record.{Record}
use Rattle.reader.specs.Fetched.{RecordIs}
use Rattle.derivation_frames.specs.declared.Node.{Node}
use Rattle.derivation_frames.specs.declared.Link.{Link}

-- r has the rule of node n, the chain of its parts and that of its premises
pub record NodeIs (rd : Reader) (n : ℕ) (r : Node) : Type 0 where
  pub kind_is : r.kind ≡ rd n 0
  pub parts_are : r.parts ≡ lower rd n 1
  pub premises_are : r.premises ≡ lower rd n 2

-- r has the item of link l and the next link
pub record LinkIs (rd : Reader) (l : ℕ) (r : Link) : Type 0 where
  pub item_is : r.item ≡ lower rd l 1
  pub next_is : r.next ≡ lower rd l 3

-- a word that was fetched, as a reference
pub lowered_word : (rd : Reader) (i w a r : ℕ) → a ≡ rd i w → r ≡ if_lt a i a 0 → r ≡ lower rd i w
unfolding lower
lowered_word rd i w a r ea e = rw (← ea) e

-- The ways out of `node_at` and `link_at`.
module _ (rd : Reader) (i : ℕ) (x : Record) (own : RecordIs rd i x) where
  pub node_is : (parts premises : ℕ) → parts ≡ if_lt x.a i x.a 0 → premises ≡ if_lt x.b i x.b 0 →
      NodeIs rd i (record { kind = x.kind; parts = parts; premises = premises })
  node_is parts premises p q = record {
    kind_is = own.kind_is;
    parts_are = lowered_word rd i 1 x.a parts own.a_is p;
    premises_are = lowered_word rd i 2 x.b premises own.b_is q;
  }

  pub link_is : (item next : ℕ) → item ≡ if_lt x.a i x.a 0 → next ≡ if_lt x.c i x.c 0 →
      LinkIs rd i (record { item = item; next = next })
  link_is item next p q = record {
    item_is = lowered_word rd i 1 x.a item own.a_is p;
    next_is = lowered_word rd i 3 x.c next own.c_is q;
  }
