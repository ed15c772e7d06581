use Rattle.xd_goals.proofs.work.begin_with.Goals as goal

pub returns-in_ok-share-in-Label-clause-keeps : goal.returns-in_ok-share-in-Label-clause-keeps
returns-in_ok-share-in-Label-clause-keeps c = c.elem_node.ensures.keeps

pub returns-in_ok-some_label-in-OtherLabel-clause-keeps : goal.returns-in_ok-some_label-in-OtherLabel-clause-keeps
returns-in_ok-some_label-in-OtherLabel-clause-keeps c = c.elem_node-in-OtherLabel.ensures.keeps

pub returns-in_ok-share-in-Text-clause-keeps : goal.returns-in_ok-share-in-Text-clause-keeps
returns-in_ok-share-in-Text-clause-keeps c = c.text_node.ensures.keeps

pub returns-in_ok-some_text-in-OtherText-clause-keeps : goal.returns-in_ok-some_text-in-OtherText-clause-keeps
returns-in_ok-some_text-in-OtherText-clause-keeps c = c.text_node-in-OtherText.ensures.keeps

pub elem_node-requires-clause-next : goal.elem_node-requires-clause-next
elem_node-requires-clause-next c = c.requires.behind

pub elem_node-requires-in-OtherLabel-clause-next : goal.elem_node-requires-in-OtherLabel-clause-next
elem_node-requires-in-OtherLabel-clause-next c = c.requires.behind
