use Rattle.tree_listing.proofs.nodes.+list_links_list_node.Given as goal

abbrev pub decreases-list_links : goal.decreases-list_links
decreases-list_links l = l.c

abbrev pub decreases-list_node : goal.decreases-list_node
decreases-list_node l = l.n
